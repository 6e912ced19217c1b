-- The words of a line: the runs of bytes other than spaces. Assumes nothing.
use Rattle.std.specs.Prelude.{ℕ, zero, suc, cond, not, List, [], ◌∷◌, length, drop, ◌==◌}
use Rattle.std.specs.List.{prefix_len, take_while}

-- A line without the spaces at its start.
abbrev pub trimmed : List ℕ → List ℕ
trimmed line = drop (prefix_len (λ b. b == 32) line) line

-- The bytes before the first space.
abbrev pub front : List ℕ → List ℕ
front line = take_while (λ b. not (b == 32)) line

-- The bytes from the first space on.
abbrev pub back : List ℕ → List ℕ
back line = drop (prefix_len (λ b. not (b == 32)) line) line

-- A line's first word, empty where it has none.
abbrev pub word : List ℕ → List ℕ
word line = front (trimmed line)

-- What follows a line's first word.
abbrev pub after : List ℕ → List ℕ
after line = back (trimmed line)

-- The first `n` words of a line, or all where there are fewer.
abbrev pub first_words : ℕ → List ℕ → List (List ℕ)
first_words zero line = []
first_words (suc n) line = cond (length (word line) == 0) [] (word line ∷ first_words n (after line))

-- The first `n` words of a line, each empty where there is none.
abbrev pub words_of : ℕ → List ℕ → List (List ℕ)
words_of zero line = []
words_of (suc n) line = word line ∷ words_of n (after line)
