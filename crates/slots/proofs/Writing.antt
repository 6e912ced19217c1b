-- A record written front to back, field by field.
use Rattle.std.proofs.Common.{◌≡◌, ℕ, ◌+◌, ◌≤◌, true, false, List, [], ◌++◌, length, take, drop, Some, sym, refl, ap, ◌∙◌, arith}
use Rattle.std.proofs.lemmas.List.{append_assoc, take_at, drop_at, drop-drop, length-append, length-drop}
use Rattle.std.proofs.lemmas.Bool.Decides.{nat_tests}
use Rattle.std.proofs.lemmas.Bool.{cond-true}
use Rattle.slots.specs.Adler.{adler}
use Rattle.slots.specs.Layout.{piece_room, around, bytes_of, header_of, body_of, record_of, record_room, put_at}
use Rattle.slots.specs.Slot.{has_room, written}

-- A field put right behind a front that is written already.
pub front_put : (s xs ys : List ℕ) (at : ℕ) → length xs ≡ at → put_at (xs ++ drop at s) at ys ≡ (xs ++ ys) ++ drop (at + length ys) s
front_put s xs ys at e =
    ap (λ l. l ++ (ys ++ drop (at + length ys) (xs ++ drop at s))) (take_at xs (drop at s) at e)
    ∙ ap (λ l. xs ++ (ys ++ l)) (sym (drop-drop (length ys) at (xs ++ drop at s)) ∙ ap (λ l. drop (length ys) l) (drop_at xs (drop at s) at e) ∙ drop-drop (length ys) at s)
    ∙ sym (append_assoc xs ys (drop (at + length ys) s))

-- What `record_len` answers.
pub room_some : (n end : ℕ) → Some end ≡ record_room n → (n ≤ piece_room) × (end ≡ around + n)
room_some n end e = grind (arith, nat_tests)

-- Whether there is room.
pub has_room_lem : (bytes p : List ℕ) → length p ≤ piece_room → around + length p ≤ length bytes → true ≡ has_room bytes p
has_room_lem bytes p a b = grind (arith, nat_tests)

-- Without room nothing is written.
pub written_none : (o d v : ℕ) (p bytes : List ℕ) → false ≡ has_room bytes p → bytes ≡ written o d v p bytes
unfolding written
written_none o d v p bytes e = grind (arith, nat_tests)

-- The header, the piece and the sum put one behind the other are the record, before what lay behind it. `n` is the sum's place.
pub written_put : (o d v n sum : ℕ) (p s s₁ s₂ s₃ : List ℕ) → true ≡ has_room s p → n ≡ 15 + length p →
    s₁ ≡ put_at s 0 (header_of o d v (length p)) → s₂ ≡ put_at s₁ 15 p → sum ≡ adler (take n s₂) → s₃ ≡ put_at s₂ n (bytes_of 4 sum) → s₃ ≡ written o d v p s
unfolding written record_of
written_put o d v n sum p s s₁ s₂ s₃ room en e₁ e₂ es e₃ =
    let head = header_of o d v (length p) in
    let body = body_of o d v p in
    let f₁ : s₁ ≡ head ++ drop 15 s = e₁ ∙ front_put s [] head 0 refl in
    let f₂ : s₂ ≡ body ++ drop (15 + length p) s = e₂ ∙ ap (λ l. put_at l 15 p) f₁ ∙ front_put s head p 15 refl in
    let long : length body ≡ n = length-append head p ∙ sym en in
    let fs : sum ≡ adler body = es ∙ ap (λ l. adler (take n l)) f₂ ∙ ap adler (take_at body (drop (15 + length p) s) n long) in
    let f₃ : s₃ ≡ put_at (body ++ drop n s) n (bytes_of 4 (adler body)) =
    e₃ ∙ ap (λ l. put_at l n (bytes_of 4 sum)) f₂ ∙ ap (λ i. put_at (body ++ drop i s) n (bytes_of 4 sum)) (sym en) ∙ ap (λ x. put_at (body ++ drop n s) n (bytes_of 4 x)) fs in
    let back : n + 4 ≡ around + length p = omega arith in
    f₃ ∙ front_put s body (bytes_of 4 (adler body)) n long ∙ ap (λ i. (body ++ bytes_of 4 (adler body)) ++ drop i s) back
    ∙ sym (cond-true (has_room s p) ((body ++ bytes_of 4 (adler body)) ++ drop (around + length p) s) s (sym room))

-- How long a record is, what room means, and that a written place is as long as it was.
pub length_record : (o d v : ℕ) (p : List ℕ) → length (record_of o d v p) ≡ around + length p
unfolding record_of
length_record o d v p =
    let head = length-append (header_of o d v (length p)) p in
    length-append (body_of o d v p) (bytes_of 4 (adler (body_of o d v p))) ∙ omega arith

pub room_parts : (bytes p : List ℕ) → has_room bytes p ≡ true → (length p ≤ piece_room) × (around + length p ≤ length bytes)
room_parts bytes p t = grind (arith, nat_tests)

pub written_there : (o d v : ℕ) (p bytes : List ℕ) → has_room bytes p ≡ true → written o d v p bytes ≡ record_of o d v p ++ drop (around + length p) bytes
unfolding written
written_there o d v p bytes t = grind (arith, nat_tests)

pub length_written : (o d v : ℕ) (p bytes : List ℕ) → length (written o d v p bytes) ≡ length bytes
length_written o d v p bytes =
    let record_long = length_record o d v p in
    let joined = length-append (record_of o d v p) (drop (around + length p) bytes) in
    let rest = length-drop (around + length p) bytes in
    let there = written_there o d v p bytes in
    let none = written_none o d v p bytes in grind (arith, nat_tests)
