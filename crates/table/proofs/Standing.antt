-- The laws of the table of objects.
use Rattle.std.proofs.Common.{◌≡◌, ℕ, ◌<◌, ltb, length, get_or, vec_items, ap, ◌∙◌, arith}
use Rattle.std.proofs.lemmas.List.{length-map, get_or-set_same, get_or-set_other}
use Rattle.std.proofs.lemmas.Bool.{cond-true, lt-ltb}
use Rattle.drives.specs.Place.{objects}
use Rattle.keeper.specs.Object.{Knowledge, unsure, State}
use Rattle.keeper.specs.Shown.{known_of}
use Rattle.table.specs.Table.{knowledge, bars_of, state_at, TableStands, OthersStand, Table}

-- A state is its four parts.
abbrev of : Knowledge → (bar next number : ℕ) → State
of k b n m = record { known = k; bar = b; next = n; number = m }

same_state : (s t : State) → s.known ≡ t.known → s.bar ≡ t.bar → s.next ≡ t.next → s.number ≡ t.number → s ≡ t
same_state s t k b n m =
    ap (λ x. of x s.bar s.next s.number) k ∙ ap (λ x. of t.known x s.next s.number) b ∙ ap (λ x. of t.known t.bar x s.number) n ∙ ap (λ x. of t.known t.bar t.next x) m

stands : TableStands
stands before after o s h a =
    let many : o < length (knowledge before) = let e = length-map (vec_items before.rows) (λ r. known_of r.known) in omega (arith, before.objects, before.rows.ok.0) in
    let bars : o < length (bars_of before) = let e = length-map (vec_items before.rows) (λ r. r.bar) in omega (arith, before.objects, before.rows.ok.0) in
    let low = lt-ltb o objects h in
    record {
      there =
          same_state (state_at after o) s
          (ap (λ ks. get_or ks o unsure) a.known ∙ get_or-set_same (knowledge before) o s.known unsure many)
          (ap (λ bs. get_or bs o 0) a.bars ∙ get_or-set_same (bars_of before) o s.bar 0 bars)
          (a.next ∙ cond-true (ltb o objects) s.next before.numbers.next low)
          (a.number ∙ cond-true (ltb o objects) s.number before.numbers.file low);
      others = λ p ne. (
        ap (λ ks. get_or ks p unsure) a.known ∙ get_or-set_other (knowledge before) o p s.known unsure ne,
        ap (λ bs. get_or bs p 0) a.bars ∙ get_or-set_other (bars_of before) o p s.bar 0 ne,
      );
    }

others : OthersStand
others before after o p ne l =
    same_state (state_at after p) (state_at before p)
    (ap (λ ks. get_or ks p unsure) l.known ∙ get_or-set_other (knowledge before) o p unsure unsure ne)
    (ap (λ bs. get_or bs p 0) l.bars) l.next l.number

pub table_stands : Table
table_stands = record { stands = stands; others = others }
