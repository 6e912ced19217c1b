-- Pieces taken away place by place.
use Rattle.std.proofs.Common.{◌≡◌, ℕ, zero, suc, ◌+◌, ◌<◌, ◌≤◌, true, false, cond, List, length, get_or, take, drop, replicate, count_by, sym, refl, ap, ◌∙◌, inl, inr, arith}
use Rattle.std.proofs.lemmas.List.{length-append, length-replicate, length-drop}
use Rattle.std.proofs.lemmas.List.Sums.{count_by_more_yes, count_by_more_no}
use Rattle.std.proofs.lemmas.Bool.Decides.{nat_tests}
use Rattle.std.proofs.lemmas.Bool.{cases_eq}
use Rattle.slots.specs.Layout.{around}
use Rattle.slots.specs.Slot.{Slot, empty, holds, read_slot, cleared}
use Rattle.slots.proofs.Clearing.{cleared_none, cleared_held, held_within}
use Rattle.drives.specs.Place.{slot_at, readings}
use Rattle.drives.specs.Rule.{names_slot}
use Rattle.drives.specs.Steps.{taken_at, taken_below}
use Rattle.drives.specs.declared.rule.Rule.{Rule}
use Rattle.drives.proofs.Counting.{length_readings, get_or_readings}
use Rattle.drives.proofs.Standing.{slot_stands, others_stand}

-- A cleared slot is as long as it was.
length_cleared_by : (o d : ℕ) (bytes : List ℕ) (r : Slot) → read_slot o d bytes ≡ r → length (cleared o d bytes) ≡ length bytes
length_cleared_by o d bytes empty e = ap length (sym (cleared_none o d bytes (sym e)))
length_cleared_by o d bytes (holds v p) e =
    let n = around + length p in
    let within = held_within o d v p bytes (sym e) in
    ap length (sym (cleared_held o d v p bytes (sym e))) ∙ length-append (replicate n 0) (drop n bytes) ∙ omega (arith, length-replicate {A = ℕ} n 0, length-drop n bytes)

pub length_cleared : (o d : ℕ) (bytes : List ℕ) → length (cleared o d bytes) ≡ length bytes
length_cleared o d bytes = length_cleared_by o d bytes (read_slot o d bytes) refl

-- Taking away at one place leaves all other slots.
pub taken_apart : (bytes : List ℕ) (o d i o' k : ℕ) (rule : Rule) → i < 4 → k < 4 → ((o ≡ o') × (i ≡ k) → ⊥) → slot_at (taken_at bytes o d i rule) o' k ≡ slot_at bytes o' k
taken_apart bytes o d i o' k rule h h' apart =
    let slot = slot_at bytes o i in
    let others = others_stand bytes (cleared o d slot) o i o' k h h' (length_cleared o d slot) apart in grind (arith, nat_tests)

pub below_apart : (bytes : List ℕ) (o d i k : ℕ) (rule : Rule) → i ≤ k → k < 4 → slot_at (taken_below i bytes o d rule) o k ≡ slot_at bytes o k
unfolding taken_below
below_apart bytes o d zero k rule h h' = refl
below_apart bytes o d (suc i) k rule h h' =
    taken_apart (taken_below i bytes o d rule) o d i o k rule (omega arith) h' (λ e. let f = e.1 in omega arith) ∙ below_apart bytes o d i k rule (omega arith) h'

-- What a rule names at the next place, before and after the lower ones were cleared.
pub named_still : (bytes : List ℕ) (o d i : ℕ) (rule : Rule) → i < 4 →
    names_slot rule (read_slot o d (slot_at (taken_below i bytes o d rule) o i)) ≡ names_slot rule (get_or (readings bytes o d) i empty)
named_still bytes o d i rule h = ap (λ s. names_slot rule (read_slot o d s)) (below_apart bytes o d i i rule (omega arith) h) ∙ ap (names_slot rule) (sym (get_or_readings bytes o d i h))

-- How many are named, one place on.
pub count_yes : (bytes : List ℕ) (o d i n : ℕ) (rule : Rule) → i < 4 → true ≡ names_slot rule (read_slot o d (slot_at (taken_below i bytes o d rule) o i)) →
    n ≡ count_by (names_slot rule) (take i (readings bytes o d)) → n + 1 ≡ count_by (names_slot rule) (take (i + 1) (readings bytes o d))
count_yes bytes o d i n rule h t e =
    let long = length_readings bytes o d in
    let still = named_still bytes o d i rule h in
    let more = count_by_more_yes (names_slot rule) (readings bytes o d) i empty in grind arith

pub count_no : (bytes : List ℕ) (o d i n : ℕ) (rule : Rule) → i < 4 → false ≡ names_slot rule (read_slot o d (slot_at (taken_below i bytes o d rule) o i)) →
    n ≡ count_by (names_slot rule) (take i (readings bytes o d)) → n ≡ count_by (names_slot rule) (take (i + 1) (readings bytes o d))
count_no bytes o d i n rule h t e =
    let long = length_readings bytes o d in
    let still = named_still bytes o d i rule h in
    let more = count_by_more_no (names_slot rule) (readings bytes o d) i empty in grind arith

-- A slot once what a rule names in it was taken away.
abbrev pub cleared_if : (o d : ℕ) → Rule → List ℕ → List ℕ
cleared_if o d rule slot = cond (names_slot rule (read_slot o d slot)) (cleared o d slot) slot

taken_here : (bytes : List ℕ) (o d i : ℕ) (rule : Rule) → slot_at (taken_at bytes o d i rule) o i ≡ cleared_if o d rule (slot_at bytes o i)
taken_here bytes o d i rule =
    let slot = slot_at bytes o i in
    let stands = slot_stands bytes (cleared o d slot) o i (length_cleared o d slot) in grind (arith, nat_tests)

pub below_done : (n : ℕ) (bytes : List ℕ) (o d i : ℕ) (rule : Rule) → i < n → n ≤ 4 → slot_at (taken_below n bytes o d rule) o i ≡ cleared_if o d rule (slot_at bytes o i)
unfolding taken_below
below_done zero bytes o d i rule h h' = absurd (omega arith)
below_done (suc n) bytes o d i rule h h' =
    elim (cases_eq n i) [
      | inl same ↦ ap (slot_at (taken_below (suc n) bytes o d rule) o) (sym same) ∙ taken_here (taken_below n bytes o d rule) o d n rule
          ∙ ap (cleared_if o d rule) (below_apart bytes o d n n rule (omega arith) (omega arith) ∙ ap (slot_at bytes o) same)
      | inr other ↦ taken_apart (taken_below n bytes o d rule) o d n o i rule (omega arith) (omega arith) (λ e. other e.1) ∙ below_done n bytes o d i rule (omega arith) (omega arith)
    ]

pub below_others : (n : ℕ) (bytes : List ℕ) (o d o' k : ℕ) (rule : Rule) → n ≤ 4 → k < 4 → (o ≡ o' → ⊥) → slot_at (taken_below n bytes o d rule) o' k ≡ slot_at bytes o' k
unfolding taken_below
below_others zero bytes o d o' k rule h h' apart = refl
below_others (suc n) bytes o d o' k rule h h' apart =
    taken_apart (taken_below n bytes o d rule) o d n o' k rule (omega arith) h' (λ e. apart e.0) ∙ below_others n bytes o d o' k rule (omega arith) h' apart
