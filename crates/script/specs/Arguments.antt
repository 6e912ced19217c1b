-- What the words after a command's first word are: first how many there are, then each of them from the left. Assumes nothing.
use Rattle.std.specs.Prelude.{ℕ, cond, List, [], ◌∷◌, Ok, Err, vec_items, codes, Result, Vec, ◌==◌}
use Rattle.std.specs.Option.{ok_or}
use Rattle.std.specs.declared.alloc.Global.{Global}
use Rattle.std.specs.Str.{bytes_eq}
use Rattle.script.specs.declared.command.StopAt.{StopAt}
use Rattle.script.specs.declared.command.StopAt.TheVariants.{Now, Slot, FileOld, FileNew}
use Rattle.script.specs.declared.error.LineError.{LineError}
use Rattle.script.specs.declared.error.LineError.TheVariants.{UnknownCommand, MissingWord, TooManyWords, NotNumber}
use Rattle.script.specs.Digits.{number_of, from_hex}

-- What `f` makes of an answer.
abbrev pub and_then : {A B : Type 0} → Result A LineError → (A → Result B LineError) → Result B LineError
and_then (Ok a) f = f a
and_then (Err e) f = Err e

-- The number that stands as the word at a place of the line. Places count from 1, and the command's word has the first.
abbrev pub number_at : ℕ → List ℕ → Result ℕ LineError
number_at place word = ok_or (number_of word) (NotNumber place)

-- The words that follow, for each kind of command.
abbrev pub nothing : List (List ℕ) → Result Unit LineError
nothing [] = Ok tt
nothing (_ ∷ _) = Err TooManyWords

abbrev pub one_number : List (List ℕ) → Result ℕ LineError
one_number [] = Err MissingWord
one_number (a ∷ []) = number_at 2 a
one_number (_ ∷ _ ∷ _) = Err TooManyWords

abbrev pub two_numbers : List (List ℕ) → Result (ℕ × ℕ) LineError
two_numbers [] = Err MissingWord
two_numbers (_ ∷ []) = Err MissingWord
two_numbers (a ∷ b ∷ []) = and_then (number_at 2 a) (λ a. and_then (number_at 3 b) (λ b. Ok (a, b)))
two_numbers (_ ∷ _ ∷ _ ∷ _) = Err TooManyWords

abbrev pub three_numbers : List (List ℕ) → Result (ℕ × ℕ × ℕ) LineError
three_numbers [] = Err MissingWord
three_numbers (_ ∷ []) = Err MissingWord
three_numbers (_ ∷ _ ∷ []) = Err MissingWord
three_numbers (a ∷ b ∷ c ∷ []) = and_then (number_at 2 a) (λ a. and_then (number_at 3 b) (λ b. and_then (number_at 4 c) (λ c. Ok (a, b, c))))
three_numbers (_ ∷ _ ∷ _ ∷ _ ∷ _) = Err TooManyWords

-- A number and bytes. The bytes may be left out: then there are none.
abbrev pub number_and_bytes : List (List ℕ) → Result (ℕ × List ℕ) LineError
number_and_bytes [] = Err MissingWord
number_and_bytes (n ∷ []) = and_then (number_at 2 n) (λ a. Ok (a, []))
number_and_bytes (n ∷ hex ∷ []) = and_then (number_at 2 n) (λ a. and_then (from_hex hex) (λ bytes. Ok (a, bytes)))
number_and_bytes (_ ∷ _ ∷ _ ∷ _) = Err TooManyWords

-- The same, with the bytes of the Vec.
abbrev pub with_items : ℕ × Vec ℕ Global → ℕ × List ℕ
with_items r = (r.0, vec_items r.1)

-- `give up O`.
abbrev pub give_up : List (List ℕ) → Result ℕ LineError
give_up [] = Err MissingWord
give_up (_ ∷ []) = Err MissingWord
give_up (up ∷ object ∷ []) = cond (bytes_eq up (codes "up")) (number_at 3 object) (Err UnknownCommand)
give_up (_ ∷ _ ∷ _ ∷ _) = Err TooManyWords

-- `stop old`, `stop new` or `stop K`; `stop 0` stops now.
abbrev pub stop_at : List (List ℕ) → Result StopAt LineError
stop_at [] = Err MissingWord
stop_at (at ∷ []) =
    cond (bytes_eq at (codes "old")) (Ok FileOld)
    (cond (bytes_eq at (codes "new")) (Ok FileNew)
    (and_then (number_at 2 at) (λ k. Ok (cond (k == 0) Now (Slot k)))))
stop_at (_ ∷ _ ∷ _) = Err TooManyWords
