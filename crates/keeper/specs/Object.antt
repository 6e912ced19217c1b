-- What a step of the keeper speaks of: an object's state, the pieces that are read of it, what is answered, and what is to be done outside.
-- Assumes nothing.
use Rattle.std.specs.Prelude.{ℕ, Bool, List, [], Option}
use Rattle.keeper.specs.declared.refusal.Refusal.{Refusal}

-- What is known of an object: nothing for sure; the version that counts, 0 for none; or that it is being written, from one version to another, with these bytes.
pub data Knowledge : Type 0 where
  unsure : Knowledge
  counts : (version : ℕ) → Knowledge
  writing : (old new : ℕ) (content : List ℕ) → Knowledge

-- A piece of the object that was read on a drive that is in.
pub record Reading : Type 0 where
  pub drive : ℕ
  pub place : ℕ
  pub version : ℕ
  pub piece : List ℕ

-- What is to be done outside: these bytes go to a place of a drive; the record in a place is taken away; the file is replaced by one with this number
-- and with this bar for the object, and with all other bars as they were.
pub data Act : Type 0 where
  write_slot : (drive place : ℕ) (bytes : List ℕ) → Act
  clear_slot : (drive place : ℕ) → Act
  replace_file : (number bar : ℕ) → Act

-- What the caller is told.
pub data Reply : Type 0 where
  refused : Refusal → Reply
  done : Reply
  is_version : (version : ℕ) → Reply
  has : (version : ℕ) (content : List ℕ) → Reply
  none : Reply
  removed : (pieces : ℕ) → Reply
  mended : (pieces : ℕ) → Reply
  found : (old new : ℕ) → Reply
  unknown : Reply

-- An object's state with the numbers that all objects share: the next version's number, which was never used, and the number in the file, which is above
-- every number used (1 where there is no file). Below its bar nothing of the object counts any more.
pub record State : Type 0 where
  pub known : Knowledge
  pub bar : ℕ
  pub next : ℕ
  pub number : ℕ

-- A step: what is told, what is to be done first, in this order, and the state from then on.
pub record Outcome : Type 0 where
  pub reply : Reply
  pub acts : List Act
  pub state : State

-- The drives: how many there are, how many pieces give an object back, and which drives are in.
pub record Setup : Type 0 where
  pub drives : ℕ
  pub need : ℕ
  pub is_in : ℕ → Bool

-- How an object's pieces are made, written and worked out; the theorem of the whole is over every codec that keeps its laws.
pub record Codec : Type 0 where
  -- the bytes by which a piece of a version lies on a drive
  pub encode : (drive version : ℕ) → List ℕ → List ℕ
  -- the piece of a content on a drive
  pub piece_of : (drive : ℕ) → List ℕ → List ℕ
  -- the content that has these pieces, if any has
  pub work_out : List (ℕ × List ℕ) → Option (List ℕ)

-- Nothing changes, and the caller is told why.
abbrev pub refuse : State → Refusal → Outcome
refuse s e = record { reply = refused e; acts = []; state = s }
