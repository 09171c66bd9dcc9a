-- A unit as it lies in memory: the core, and thirteen arrays, most of them in structs of their own; and what whoever holds a unit knows of these.
use mathlib.Core.List.{[], ◌∷◌}
use Prim.Native.Nat.{ℕ}
use mir.Syntax.{w8, w16, w32, w64}
use mir.Val.{Val}
use denote.Laws.{Is}
use denote.Copied.{uint_Copied, sint_Copied}
use denote.Plain.{uint_Makes}
use denote.Signed.{sint_Makes}
use denote.Struct.Field.{u8-field, u16-field, u32-field, i64-field}
use denote.Struct.Laws as LL
use Rattle.lend.proofs.Loan.{Stretch}
use Rattle.lend.proofs.Fields.{Layout, end, beside, array, inner, arrays, Contents, Kept}
use Rattle.lend.proofs.Chosen.{AllSound}
use Rattle.state.specs.declared.Unit.{Unit as State}
use Rattle.state.specs.declared.Core.{Core}
use Rattle.state.specs.contracts.Core as CO
use Rattle.state.proofs.Core.TheLaws as CO'
use Rattle.inputs.specs.contracts.Monitors as MO
use Rattle.inputs.proofs.Monitors.TheLaws as MO'
use Rattle.buckets.specs.contracts.Buckets as BU
use Rattle.buckets.proofs.Buckets.TheLaws as BU'
use Rattle.history.specs.contracts.History as HI
use Rattle.history.proofs.History.TheLaws as HI'
use Rattle.state.specs.contracts.Unit as T
use Rattle.state.proofs.Unit.TheLaws as T'

-- ---- the arrays' elements
abbrev bytes : ℕ → Stretch
bytes n = record { element = u8-field; laws = LL.u8-laws; count = n; plain = λ 𝓛. uint_Makes 𝓛 w8; alone = tt; copied = λ 𝓛. uint_Copied 𝓛 w8 }

abbrev row : Stretch
row = record { element = u16-field; laws = LL.u16-laws; count = 8; plain = λ 𝓛. uint_Makes 𝓛 w16; alone = tt; copied = λ 𝓛. uint_Copied 𝓛 w16 }

abbrev words : ℕ → Stretch
words n = record { element = u32-field; laws = LL.u32-laws; count = n; plain = λ 𝓛. uint_Makes 𝓛 w32; alone = tt; copied = λ 𝓛. uint_Copied 𝓛 w32 }

abbrev sums : Stretch
sums = record { element = i64-field; laws = LL.i64-laws; count = 64; plain = λ 𝓛. sint_Makes 𝓛 w64; alone = tt; copied = λ 𝓛. sint_Copied 𝓛 w64 }

-- ---- the unit's fields
abbrev pub lies : Layout
lies =
    beside CO'.mir
    (inner (MO.the_type).name (array row (array row (array row (array row (array row (array row end))))))
    (inner (BU.the_type).name (array (words 4) (array row end))
    (inner (HI.the_type).name (array sums (array sums (array sums end)))
    (array (words 16) (array (bytes 32) end)))))

abbrev pub Arrays : Type 0
Arrays = Contents (arrays lies [])

abbrev pub arrays_of : State → Arrays
arrays_of h =
    let m = h.monitors in (
      m.level,
      (
        m.decay,
        (
          m.activity,
          (
            m.frequency,
            (
              m.remainder,
              (
                m.soak,
                (
                  h.buckets.sets,
                  (
                    h.buckets.assigned,
                    (h.history.sums, (h.history.building, (h.history.backup, (h.windows, (h.regs, tt))))),
                  ),
                ),
              ),
            ),
          ),
        ),
      ),
    )

abbrev pub make : Core → Arrays → State
make c ls =
    let sets = ls.1.1.1.1.1.1 in
    let blocks = sets.1.1 in
    record {
      core = c;
      monitors = record { level = ls.0; decay = ls.1.0; activity = ls.1.1.0; frequency = ls.1.1.1.0; remainder = ls.1.1.1.1.0; soak = ls.1.1.1.1.1.0 };
      buckets = record { sets = sets.0; assigned = sets.1.0 };
      history = record { sums = blocks.0; building = blocks.1.0; backup = blocks.1.1.0 };
      windows = blocks.1.1.1.0;
      regs = blocks.1.1.1.1.0;
    }

-- ---- machine values
abbrev pub val_t : State → Val
val_t = LL.val T.the_type T'.the_laws

abbrev pub val_c : Core → Val
val_c = LL.val CO.the_type CO'.the_laws

abbrev pub kept_of : Core → Kept lies
kept_of c = (val_c c, (tt, (tt, (tt, tt))))

-- ---- what whoever holds a unit knows
pub core_of : (h : State) → Is T.the_row h (val_t h ∷ []) → Is CO.the_row h.core (val_c h.core ∷ [])
core_of h g = (LL.owed T.the_type T'.the_laws h (val_t h ∷ []) g).0

pub sound_of : (h : State) → Is T.the_row h (val_t h ∷ []) → AllSound (arrays lies []) (arrays_of h)
sound_of h g =
    let all = LL.owed T.the_type T'.the_laws h (val_t h ∷ []) g in
    let m = LL.owed MO.the_type MO'.the_laws h.monitors _ all.1.0 in
    let s = LL.owed BU.the_type BU'.the_laws h.buckets _ all.1.1.0 in
    let b = LL.owed HI.the_type HI'.the_laws h.history _ all.1.1.1.0 in (
      m.0,
      (
        m.1.0,
        (
          m.1.1.0,
          (
            m.1.1.1.0,
            (
              m.1.1.1.1.0,
              (
                m.1.1.1.1.1.0,
                (
                  s.0,
                  (
                    s.1.0,
                    (b.0, (b.1.0, (b.1.1.0, (all.1.1.1.1.0, (all.1.1.1.1.1.0, tt))))),
                  ),
                ),
              ),
            ),
          ),
        ),
      ),
    )

-- and what whoever makes one has to know
pub made : (c : Core) (ls : Arrays) → Is CO.the_row c (val_c c ∷ []) → AllSound (arrays lies []) ls → Is T.the_row (make c ls) (val_t (make c ls) ∷ [])
made c ls k gs =
    let u = make c ls in
    let s = gs.1.1.1.1.1.1 in
    let b = s.1.1 in
    LL.owes T.the_type T'.the_laws u (
      k,
      (
        LL.owes MO.the_type MO'.the_laws u.monitors (gs.0, (gs.1.0, (gs.1.1.0, (gs.1.1.1.0, (gs.1.1.1.1.0, (gs.1.1.1.1.1.0, tt)))))),
        (
          LL.owes BU.the_type BU'.the_laws u.buckets (s.0, (s.1.0, tt)),
          (
            LL.owes HI.the_type HI'.the_laws u.history (b.0, (b.1.0, (b.1.1.0, tt))),
            (b.1.1.1.0, (b.1.1.1.1.0, tt)),
          ),
        ),
      ),
    )
