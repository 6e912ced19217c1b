-- What a command asks for, with lists where the code has a Vec. Assumes nothing.
use Rattle.std.specs.Prelude.{ℕ, List, vec_items}
use Rattle.script.specs.declared.command.StopAt.{StopAt}
use Rattle.script.specs.declared.command.Command.{Command}
use Rattle.script.specs.declared.command.Command.TheVariants.{Begin, Write, Finish, Read, Tidy, Mend, Sweep, Out, In, Settle, GiveUp, Put, Heal, Count, Show, Stop, Wipe, Spoil}

-- One case for each command.
pub data Order : Type 0 where
  begins : (object : ℕ) (bytes : List ℕ) → Order
  writes : (object drive : ℕ) → Order
  finishes : (object : ℕ) → Order
  reads : (object : ℕ) → Order
  tidies : (object drive : ℕ) → Order
  mends : (object drive : ℕ) → Order
  sweeps : (drive : ℕ) → Order
  takes_out : (drive : ℕ) → Order
  takes_in : (drive : ℕ) → Order
  settles : (object : ℕ) → Order
  gives_up : (object : ℕ) → Order
  puts : (object : ℕ) (bytes : List ℕ) → Order
  heals : Order
  counts : Order
  shows : Order
  stops : StopAt → Order
  wipes : (drive : ℕ) → Order
  spoils : (drive object version : ℕ) → Order

-- What a command of the code asks for.
abbrev pub shown : Command → Order
shown (Begin o bytes) = begins o (vec_items bytes)
shown (Write o d) = writes o d
shown (Finish o) = finishes o
shown (Read o) = reads o
shown (Tidy o d) = tidies o d
shown (Mend o d) = mends o d
shown (Sweep d) = sweeps d
shown (Out d) = takes_out d
shown (In d) = takes_in d
shown (Settle o) = settles o
shown (GiveUp o) = gives_up o
shown (Put o bytes) = puts o (vec_items bytes)
shown Heal = heals
shown Count = counts
shown Show = shows
shown (Stop at) = stops at
shown (Wipe d) = wipes d
shown (Spoil d o v) = spoils d o v
