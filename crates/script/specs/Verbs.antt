-- The first words of commands. Assumes nothing.
use Rattle.std.specs.Prelude.{ℕ, Bool, true, false, cond, List, [], ◌∷◌, Some, None, codes, Option}
use Rattle.std.specs.Str.{bytes_eq}
use Rattle.script.specs.declared.command.Verb.{Verb}
use Rattle.script.specs.declared.command.Verb.TheVariants.{Begin, Put, Write, Tidy, Mend, Finish, Read, Settle, Sweep, Out, In, Wipe, Heal, Count, Show, Spoil, Give, Stop}

abbrev pub verbs : List (List ℕ × Verb)
verbs =
    (codes "begin", Begin)
    ∷ (codes "put", Put)
    ∷ (codes "write", Write)
    ∷ (codes "tidy", Tidy)
    ∷ (codes "mend", Mend)
    ∷ (codes "finish", Finish)
    ∷ (codes "read", Read)
    ∷ (codes "settle", Settle)
    ∷ (codes "sweep", Sweep)
    ∷ (codes "out", Out)
    ∷ (codes "in", In)
    ∷ (codes "wipe", Wipe)
    ∷ (codes "heal", Heal)
    ∷ (codes "count", Count)
    ∷ (codes "show", Show)
    ∷ (codes "spoil", Spoil)
    ∷ (codes "give", Give)
    ∷ (codes "stop", Stop)
    ∷ []

-- What a word stands for in a list of words.
abbrev pub look_up : List (List ℕ × Verb) → List ℕ → Option Verb
look_up [] word = None
look_up (known ∷ others) word = cond (bytes_eq word known.0) (Some known.1) (look_up others word)

-- The first word of a line, if it is that of a command.
abbrev pub verb_of : List ℕ → Option Verb
verb_of word = look_up verbs word

-- Bytes may follow the word: only then is memory asked for.
abbrev pub takes_bytes : Verb → Bool
takes_bytes Begin = true
takes_bytes Put = true
takes_bytes _ = false
