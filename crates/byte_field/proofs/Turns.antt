-- The loop of `product`: its start, a turn and its end.
-- Assumes nothing.
use Rattle.std.proofs.Common.{◌≡◌, ℕ, suc, ◌+◌, ◌-◌, ◌/◌, ◌%◌, ◌^◌, ◌<◌, ◌≤◌, cond, eqb, sym, ap, ◌∙◌, arith, shr-shr}
use Rattle.byte_field.specs.Byte.{add, twice, times, mul, IsByte}
use Rattle.byte_field.proofs.Laws.{add_assoc, zero_add, add_zero, mul_byte}

-- The product: what is summed up before place `i`, and the product that is left, of `shifted` and the bits from `i` on.
abbrev pub with_rest : (i total shifted b : ℕ) → ℕ
with_rest i total shifted b = add total (times (8 - i) shifted (b / 2 ^ i))

pub start : (a b : ℕ) → with_rest 0 0 a b ≡ mul a b
unfolding mul
start a b = ap (λ n. add 0 (times 8 a n)) (omega arith) ∙ zero_add (mul a b) (mul_byte a b)

pub turn : (i total shifted b : ℕ) → i < 8
    → with_rest (i + 1) (add total (cond (eqb (b / 2 ^ i % 2) 1) shifted 0)) (twice shifted) b ≡ with_rest i total shifted b
unfolding times
turn i total shifted b below =
    let n : ℕ = 8 - (i + 1) in
    let one_more : 8 - i ≡ suc n = omega arith in
    add_assoc total (cond (eqb (b / 2 ^ i % 2) 1) shifted 0) (times n (twice shifted) (b / 2 ^ (i + 1)))
    ∙ ap (λ rest. add total (add (cond (eqb (b / 2 ^ i % 2) 1) shifted 0) (times n (twice shifted) rest))) (sym (shr-shr b i 1))
    ∙ ap (λ k. add total (times k shifted (b / 2 ^ i))) (sym one_more)

pub finish : (i total shifted b : ℕ) → 8 ≤ i → IsByte total → with_rest i total shifted b ≡ total
unfolding times
finish i total shifted b all h =
    let none : 8 - i ≡ 0 = omega arith in
    ap (λ k. add total (times k shifted (b / 2 ^ i))) none ∙ add_zero total h
