-- Adler's two sums added up without reducing: the same once they are reduced.
use Rattle.std.proofs.Common.{◌≡◌, ℕ, ◌+◌, ◌%◌, ◌^◌, ◌<◌, List, [], ◌∷◌, ◌++◌, length, get_or, drop, ap, ◌∙◌, arith}
use Rattle.std.proofs.lemmas.List.{drop_more}
use Rattle.slots.specs.Adler.{sums, adler}

-- One byte more, with sums that aren't reduced.
pub sums_more : (a b x : ℕ) (xs : List ℕ) → sums (a % 65521) (b % 65521) (x ∷ xs) ≡ sums ((a + x) % 65521) ((b + (a + x)) % 65521) xs
unfolding sums
sums_more a b x xs =
    let p : (a % 65521 + x) % 65521 ≡ (a + x) % 65521 = omega arith in
    let q : (b % 65521 + (a % 65521 + x) % 65521) % 65521 ≡ (b + (a + x)) % 65521 = omega arith in
    ap (λ n. sums n ((b % 65521 + (a % 65521 + x) % 65521) % 65521) xs) p ∙ ap (λ n. sums ((a + x) % 65521) n xs) q

-- The sum of bytes has 32 bits.
pub sums_lt : (a b : ℕ) (xs : List ℕ) → a < 65521 → b < 65521 → sums a b xs < 2 ^ 32
unfolding sums
sums_lt a b [] p q = omega arith
sums_lt a b (x ∷ xs) p q = sums_lt ((a + x) % 65521) ((b + (a + x) % 65521) % 65521) xs (omega arith) (omega arith)

pub adler_lt : (xs : List ℕ) → adler xs < 2 ^ 32
unfolding adler
adler_lt xs = sums_lt 1 0 xs (omega arith) (omega arith)

-- One byte more of what is left of a block, whatever comes after the block.
pub onward_more : (a b i : ℕ) (xs rest : List ℕ) → i < length xs →
    sums (a % 65521) (b % 65521) (drop i xs ++ rest) ≡ sums ((a + get_or xs i 0) % 65521) ((b + (a + get_or xs i 0)) % 65521) (drop (i + 1) xs ++ rest)
onward_more a b i xs rest h = let next = drop_more xs i 0 h in let more = sums_more a b (get_or xs i 0) (drop (i + 1) xs ++ rest) in grind arith
