-- What a line says. Assumes nothing.
use Rattle.std.specs.Prelude.{◌≡◌, ℕ, Bool, true, false, cond, List, [], ◌∷◌, Some, None, Ok, Err, Option, Result, ◌==◌}
use Rattle.script.specs.declared.command.Verb.{Verb}
use Rattle.script.specs.declared.command.Verb.TheVariants.{Begin, Put, Write, Tidy, Mend, Finish, Read, Settle, Sweep, Out, In, Wipe, Heal, Count, Show, Spoil, Give, Stop}
use Rattle.script.specs.declared.error.LineError.{LineError}
use Rattle.script.specs.declared.error.LineError.TheVariants.{UnknownCommand}
use Rattle.script.specs.Arguments.{and_then, nothing, one_number, two_numbers, three_numbers, number_and_bytes, give_up, stop_at}
use Rattle.script.specs.Orders.{Order, begins, puts, writes, tidies, mends, finishes, reads, settles, sweeps, takes_out, takes_in, wipes, heals, counts, shows, spoils, gives_up, stops}
use Rattle.script.specs.Verbs.{verb_of, takes_bytes}
use Rattle.script.specs.Words.{first_words}

-- The first byte is '#'.
abbrev pub is_comment : List ℕ → Bool
is_comment [] = false
is_comment (b ∷ bs) = b == 35

-- What a command asks for by the words after its first.
abbrev pub order_of : Verb → List (List ℕ) → Result Order LineError
order_of Begin ws = and_then (number_and_bytes ws) (λ r. Ok (begins r.0 r.1))
order_of Put ws = and_then (number_and_bytes ws) (λ r. Ok (puts r.0 r.1))
order_of Write ws = and_then (two_numbers ws) (λ r. Ok (writes r.0 r.1))
order_of Tidy ws = and_then (two_numbers ws) (λ r. Ok (tidies r.0 r.1))
order_of Mend ws = and_then (two_numbers ws) (λ r. Ok (mends r.0 r.1))
order_of Finish ws = and_then (one_number ws) (λ n. Ok (finishes n))
order_of Read ws = and_then (one_number ws) (λ n. Ok (reads n))
order_of Settle ws = and_then (one_number ws) (λ n. Ok (settles n))
order_of Sweep ws = and_then (one_number ws) (λ n. Ok (sweeps n))
order_of Out ws = and_then (one_number ws) (λ n. Ok (takes_out n))
order_of In ws = and_then (one_number ws) (λ n. Ok (takes_in n))
order_of Wipe ws = and_then (one_number ws) (λ n. Ok (wipes n))
order_of Heal ws = and_then (nothing ws) (λ _. Ok heals)
order_of Count ws = and_then (nothing ws) (λ _. Ok counts)
order_of Show ws = and_then (nothing ws) (λ _. Ok shows)
order_of Spoil ws = and_then (three_numbers ws) (λ r. Ok (spoils r.0 r.1 r.2))
order_of Give ws = and_then (give_up ws) (λ n. Ok (gives_up n))
order_of Stop ws = and_then (stop_at ws) (λ at. Ok (stops at))

-- What a line's words ask for, where its first word is that of a command.
abbrev pub ordered : Option Verb → List (List ℕ) → Result (Option Order) LineError
ordered None ws = Err UnknownCommand
ordered (Some verb) ws = and_then (order_of verb ws) (λ order. Ok (Some order))

-- What a line's words ask for; where there are none, nothing is said.
abbrev pub asked : List (List ℕ) → Result (Option Order) LineError
asked [] = Ok None
asked (name ∷ ws) = ordered (verb_of name) ws

-- A line without words, or whose first byte is '#', says nothing. A command has four words at most, and a fifth shows that there are too many.
abbrev pub meaning : List ℕ → Result (Option Order) LineError
meaning line = cond (is_comment line) (Ok None) (asked (first_words 5 line))

-- The words' command has bytes.
abbrev pub Asks : List (List ℕ) → Type 0
Asks [] = ⊥
Asks (name ∷ ws) = (verb : Verb) × ((verb_of name ≡ Some verb) × (takes_bytes verb ≡ true))

-- The line's command has bytes.
abbrev pub AsksMemory : List ℕ → Type 0
AsksMemory line = Asks (first_words 5 line)
