-- Windows taken one after another from numbers that are start and end in turn, and the check of each.
use Rattle.std.proofs.Common.{◌≡◌, ℕ, zero, suc, ◌+◌, ◌-◌, ◌*◌, ◌/◌, ◌≤◌, ◌<◌, Bool, false, ◌&&◌, ◌||◌, List, [], ◌∷◌, map, length, get_or, take, drop, refl, ap, sym, ◌∙◌, arith, add-one, drop-cons, get_or-drop, if◌then◌else◌}
use Rattle.std.proofs.lemmas.Grind.{common_steps}
use Rattle.std.proofs.lemmas.List.{get_or-take, length-map, take-map}
use Rattle.std.specs.List.{list_any}
use Rattle.std.specs.Simd.{first_chunks}
use lib.Dec.{leb, ltb, eqb}
use borrow.Author.Tests.{lt-leb}
use Rattle.rules.specs.Week.{week_ticks, Window, in_window, busy, is_window, ascending, starts_week, last_end, ends_week, windows_fit, window_at, windows_from, first_windows}
use Rattle.rules.specs.Refusals.{windows_refusal}
use Rattle.week.specs.Bridge.{window_of, windows_of, standing}

-- ---- numbers in pairs

-- the windows of the pairs of some numbers, which are those of a list from window k on
pairs_from : (n k : ℕ) (l r : List ℕ) → ((j : ℕ) → get_or r j 0 ≡ get_or l (2 * k + j) 0) → map window_of (first_chunks 2 n r) ≡ windows_from n k l
unfolding windows_from
pairs_from zero k l r same = refl
pairs_from (suc n) k l r same =
    let start : get_or (take 2 r) 0 0 ≡ get_or l (2 * k) 0 = get_or-take 2 r 0 0 (omega arith) ∙ same 0 ∙ ap (λ j. get_or l j 0) (omega arith) in
    let end : get_or (take 2 r) 1 0 ≡ get_or l (2 * k + 1) 0 = get_or-take 2 r 1 0 (omega arith) ∙ same 1 in
    λ i. record { start = start i; end = end i }
    ∷ pairs_from n (k + 1) l (drop 2 r) (λ j. get_or-drop 2 r j 0 ∙ same (2 + j) ∙ ap (λ m. get_or l m 0) (omega arith)) i

-- the eight windows of sixteen numbers
pub eight_pairs : (l : List ℕ) (ps : List (List ℕ)) → length l ≡ 16 → ps ≡ first_chunks 2 (length l / 2) l → map window_of ps ≡ first_windows 8 l
eight_pairs l ps n e =
    let eight : length l / 2 ≡ 8 = ap (λ k. k / 2) n in
    rw (e, eight) (pairs_from 8 0 l l (λ j. ap (λ k. get_or l k 0) (omega arith)))

pub length_from : (n k : ℕ) (l : List ℕ) → length (windows_from n k l) ≡ n
unfolding windows_from
length_from zero k l = refl
length_from (suc n) k l = ap suc (length_from n (k + 1) l)

pub pairs_long : (ps : List (List ℕ)) (l : List ℕ) → map window_of ps ≡ first_windows 8 l → length ps ≡ 8
pairs_long ps l e = sym (length-map ps window_of) ∙ ap length e ∙ length_from 8 0 l

-- the first of them
first_of : (n count k : ℕ) (l : List ℕ) → count ≤ n → take count (windows_from n k l) ≡ windows_from count k l
unfolding windows_from
first_of n zero k l h = refl
first_of zero (suc c) k l h = absurd (omega arith)
first_of (suc n) (suc c) k l h = ap (λ ws. window_at k l ∷ ws) (first_of n c (k + 1) l (omega arith))

-- ---- busy hours

-- a pair whose start is not before its end blocks nothing
empty_free : (w : Window) (p : ℕ) → ltb w.start w.end ≡ false → in_window p w ≡ false
unfolding in_window
empty_free w p e = grind (arith, common_steps)

busy_standing : (ws : List Window) (p : ℕ) → busy (standing ws) p ≡ busy ws p
unfolding standing busy
busy_standing [] p = refl
busy_standing (w ∷ ws) p =
    let rest = busy_standing ws p in
    let none = empty_free w p in
    grind (arith, common_steps)

any_busy : (ps : List (List ℕ)) (p : ℕ) → list_any (λ w. leb (get_or w 0 0) p && ltb p (get_or w 1 0)) ps ≡ busy (map window_of ps) p
unfolding busy in_window
any_busy [] p = refl
any_busy (w ∷ ps) p = ap (λ b. leb (get_or w 0 0) p && ltb p (get_or w 1 0) || b) (any_busy ps p)

pub busy_pairs : (ps : List (List ℕ)) (l : List ℕ) (p : ℕ) → map window_of ps ≡ first_windows 8 l
    → list_any (λ w. leb (get_or w 0 0) p && ltb p (get_or w 1 0)) ps ≡ busy (windows_of l) p
busy_pairs ps l p e = any_busy ps p ∙ ap (λ ws. busy ws p) e ∙ sym (busy_standing (first_windows 8 l) p)

-- ---- the check of one window

-- what is left of the windows begins with the one at i
pub ascending_at : (ws : List (List ℕ)) (i from : ℕ) → i < length ws
    → ascending from (map window_of (drop i ws))
    ≡ (leb from (get_or (get_or ws i []) 0 0) && (is_window (window_of (get_or ws i [])) && ascending (get_or (get_or ws i []) 1 0 + 1) (map window_of (drop (i + 1) ws))))
unfolding ascending
ascending_at ws i from h = rw (drop-cons ws i [], add-one i) refl

-- ---- the first and the last

pub starts_at : (ws : List (List ℕ)) → 0 < length ws → starts_week (map window_of ws) ≡ eqb (get_or (get_or ws 0 []) 0 0) 0
unfolding starts_week
starts_at [] h = absurd (omega arith)
starts_at (w ∷ ws) h = refl

last_at : (ws : List (List ℕ)) (w : List ℕ) → last_end (get_or w 1 0) (map window_of ws) ≡ get_or (get_or (w ∷ ws) (length ws) []) 1 0
unfolding last_end
last_at [] w = refl
last_at (v ∷ ws) w = last_at ws v

pub ends_at : (ws : List (List ℕ)) → 0 < length ws → ends_week (map window_of ws) ≡ eqb (get_or (get_or ws (length ws - 1) []) 1 0) week_ticks
unfolding ends_week last_end
ends_at [] h = absurd (omega arith)
ends_at (w ∷ ws) h =
    let last : length ws ≡ suc (length ws) - 1 = omega arith in
    ap (λ e. eqb e week_ticks) (last_at ws w ∙ ap (λ k. get_or (get_or (w ∷ ws) k []) 1 0) last)

pub none_start : (ws : List (List ℕ)) → length ws ≡ 0 → (starts_week (map window_of ws) && ends_week (map window_of ws)) ≡ false
unfolding starts_week
none_start [] h = refl
none_start (w ∷ ws) h = absurd (omega arith)

-- ---- the check of all

pub too_many : (count : ℕ) (l : List ℕ) → 8 < count → windows_refusal (first_windows count l) ≡ 16
unfolding windows_refusal windows_fit
too_many count l h = rw (length_from count 0 l, lt-leb count 8 h) refl

-- no more than eight
pub few : (count : ℕ) (l : List ℕ) (ps given : List (List ℕ)) (fit : Bool) → map window_of ps ≡ first_windows 8 l → count ≤ 8 → given ≡ take count ps
    → (length given ≤ 8 → fit ≡ windows_fit (map window_of given)) → windows_refusal (first_windows count l) ≡ (if fit then 0 else 16)
unfolding windows_refusal
few count l ps given fit e h g f =
    let same : map window_of given ≡ first_windows count l = ap (map window_of) g ∙ sym (take-map window_of count ps) ∙ ap (take count) e ∙ first_of 8 count 0 l h in
    let long : length given ≡ count = sym (length-map given window_of) ∙ ap length same ∙ length_from count 0 l in
    rw (f (omega arith), same)
