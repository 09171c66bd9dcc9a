-- The reversion. A wait that is not over by the floor is not over by the delay: it goes on, in a window or not. Otherwise the code is the rule, with the delay
-- that is looked up.
use Rattle.std.proofs.Common.{refl, arith, ℕ, ◌≡◌, ◌≤◌, ◌-◌, Bool, false, not, ◌&&◌, ap, sym, ◌∙◌, List}
use borrow.Author.Tests.{leb-false, lt-leb}
use Rattle.rules.specs.Settings.{delay_ticks}
use Rattle.rules.specs.Selection.{Choice, wait_after, switches, reverted}
use Rattle.rules.specs.Week.{busy}
use Rattle.rules.proofs.BusyHours.{not_over}
use Rattle.week.specs.Bridge.{windows_of}
use Rattle.selection.specs.Bridge.{choice_of}
use Rattle.selection.proofs.reverted.Goals as goal

-- a longer delay is not over where a shorter one is not
nor_longer : (m n wait : ℕ) → m ≤ n → switches m wait ≡ false → switches n wait ≡ false
unfolding switches
nor_longer m n wait h e = lt-leb n (wait - 1) (omega (arith, leb-false m (wait - 1) e))

-- outside a window the wait rises whatever the delay is
any_delay : (m n b : ℕ) (c : Choice) → wait_after false m b c ≡ wait_after false n b c
unfolding wait_after
any_delay m n b c = refl

-- the delay that is looked up, whether a window blocks, the wait by both, and whether the switch comes
switch_is : (windows : List ℕ) (place minutes b : ℕ) (c : Choice) {n w : ℕ} {blocked over : Bool}
    → let busy = busy (windows_of windows) place in
    n ≡ delay_ticks minutes → blocked ≡ busy → w ≡ wait_after blocked n b c → over ≡ switches n w
    → (w ≡ wait_after busy (delay_ticks minutes) b c)
    × ((not blocked && over) ≡ (not busy && switches (delay_ticks minutes) (wait_after busy (delay_ticks minutes) b c)))
switch_is windows place minutes b c delay block wait test =
    let waited = wait ∙ (λ i. wait_after (block i) (delay i) b c) in
    (waited, (λ i. not (block i) && test i) ∙ (λ i. not (busy (windows_of windows) place) && switches (delay i) (waited i)))

pub returns-then-not-switches : goal.returns-then-not-switches
returns-then-not-switches c below =
    let a = c.args in
    let n = delay_ticks a.minutes in
    let risen = c.wait_after-risen.ensures ∙ any_delay a.floor n a.b (choice_of a.c) in
    let goes_on = sym (c.switches.ensures ∙ ap (switches a.floor) risen) ∙ c.if-not-switches.true in
    c.waiting.ensures
    ∙ (λ i. record { selected = a.c.selected; wait = risen i; awaited = a.b })
    ∙ sym (not_over n a.b (choice_of a.c) (busy (windows_of a.windows.now) a.place) (nor_longer a.floor n _ below goes_on))

pub returns-then-blocked-switches : goal.returns-then-blocked-switches
unfolding reverted
returns-then-blocked-switches c below =
    let a = c.args in
    let (waited, tested) = switch_is a.windows.now a.place a.minutes a.b (choice_of a.c) c.delay_ticks-n.ensures c.is_busy-blocked.ensures c.wait_after-wait.ensures c.switches-2.ensures in
    rw (sym tested ∙ c.if-blocked-switches.true) c.settled.ensures

pub returns : goal.returns
unfolding reverted
returns c below =
    let a = c.args in
    let (waited, tested) = switch_is a.windows.now a.place a.minutes a.b (choice_of a.c) c.delay_ticks-n.ensures c.is_busy-blocked.ensures c.wait_after-wait.ensures c.switches-2.ensures in
    rw (sym tested ∙ c.if-blocked-switches.false) (c.waiting-2.ensures ∙ (λ i. record { selected = a.c.selected; wait = waited i; awaited = a.b }))
