-- The worked run: each of its events may happen, and the read at its end answers.
use Rattle.std.proofs.Common.{◌≡◌, ℕ, ◌<◌, List, [], ◌∷◌, length, Some, None, refl, arith, lit≤}
use mathlib.Core.List.Memᴰ
use mathlib.Core.List.{Memᴰ}
use Rattle.keeper.specs.Object.{has as told}
use Rattle.keeper.specs.Readings.{any_of, free_place, own_place, content_of, how_many_in, all_have}
use Rattle.keeper.specs.Steps.{highest}
use Rattle.recovery.specs.Disk.{read_places, read_drives, perform_all, cut, MayCut, has_from, how_many}
use Rattle.recovery.specs.Laws.{Laws, pieces_on}
use Rattle.recovery.specs.World.{begin, write, finish, read, settle, outcome_of}
use Rattle.recovery.specs.Events.{step, cut_short, stop, breaks_off, forgets, others, failing, goes_out, returns, Run, first, then}
use Rattle.recovery.specs.Example.{of_first, copies, start, play, putting, settled, ended, Example}
use Rattle.recovery.proofs.Safe.{safety}

copies_laws : Laws copies
copies_laws =
    record {
      some = lit≤ tt;
      enough = lit≤ tt;
      written = λ d v c old l m f. refl;
      wiped = λ d old l. refl;
      works = λ c ds f apart below len. works' c ds len;
    }
  where
    works' : (c ds : List ℕ) → length ds ≡ 2 → of_first (pieces_on copies.codec c ds) ≡ Some c
    works' c [] e = absurd (omega arith)
    works' c (d ∷ ds) e = refl

pub small : (n : ℕ) → n < 256 → (b : ℕ) → Memᴰ b (n ∷ []) → b < 256
small n l b m = let e = Memᴰ.eq_of_singleton m in omega arith

started : Run copies start
unfolding has_from how_many
started =
    first (record {
      state = refl;
      number = refl;
      bar = refl;
      nothing = λ d k. refl;
      unwritten = λ d k. refl;
      unused = λ v. refl;
      unbegun = refl;
      unfinished = refl;
      bearable = lit≤ tt;
    })

-- All that a played event computes with.
unfoldable pub playing : Unit {0}
unfolding play read_places read_drives perform_all cut MayCut has_from how_many any_of free_place own_place content_of how_many_in all_have highest
playing = tt

put : Run copies (play copies putting start)
unfolding play
put = then (then (then (then (then (then started stop tt) (step (begin (7 ∷ []))) (small 7 (lit≤ tt))) (step (write 0)) tt) (step (write 1)) tt) (step (write 2)) tt) (step finish) tt

found_again : Run copies settled
unfolding playing
found_again =
    then (then (then (then (then (then (then (then (then (then put (step (begin (8 ∷ []))) (small 8 (lit≤ tt))) (breaks_off (write 1) 0 None) (tt, tt)) (failing (write 2) 0 (Some []) 2) (tt, tt, lit≤ tt)) (cut_short (write 0) 0 (Some [])) (tt, tt))
    forgets tt) (others 1027 2049 2049) (record { later = lit≤ tt; higher = lit≤ tt; below = lit≤ tt; filed = lit≤ tt })) (step settle) tt) (step (write 0)) tt) (step (write 1)) tt) (step finish) tt

returned : Run copies ended
unfolding playing
returned = then (then found_again (returns 2 (λ k. settled.disk.bytes 2 k)) (λ k. (safety copies copies_laws settled found_again).begun 2 k, lit≤ tt)) (goes_out 2) (lit≤ tt)

answer : (outcome_of copies ended read).reply ≡ told 1027 (7 ∷ [])
unfolding playing
answer = refl

pub example : Example
example = record { laws = copies_laws; run = returned; answer = answer }
