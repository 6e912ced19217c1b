-- What reading, mending and settling come to, once it is known what the pieces work out to.
-- Assumes nothing.
use Rattle.std.proofs.Common.{◌≡◌, ℕ, List, [], ◌∷◌, Some, None, Option, refl, ap, ◌∙◌}
use Rattle.keeper.specs.Object.{unsure, counts, Reading, Reply, State, has}
use Rattle.keeper.specs.Steps.{Found, better, highest, settling_on, read_as, remake}
use Rattle.recovery.specs.Disk.{Site, readings_of}
use Rattle.recovery.specs.World.{World, setup}
use Rattle.recovery.specs.Events.{carried_out}

pub reads : (s : State) (v : ℕ) (c : List ℕ) (o : Option (List ℕ)) → o ≡ Some c → (read_as s v o).reply ≡ has v c
reads s v c o e = ap (λ o. (read_as s v o).reply) e

-- The world once a piece of version v was made anew for place k of drive d, of what was worked out; and what is told.
abbrev pub mended_on : Site → (d v k : ℕ) → World → Option (List ℕ) → World
mended_on S d v k w o = carried_out S (counts v) (remake S.codec w.state d v (Some k) o) w

abbrev pub told_of_mending : Site → (d v k : ℕ) → World → Option (List ℕ) → Reply
told_of_mending S d v k w o = (remake S.codec w.state d v (Some k) o).reply

-- The search for the version to settle on, from what was found so far on, over the readings that are still to be looked at; and the whole search.
abbrev pub searched : Site → World → Found → List Reading → Found
searched S w best rest = highest S.codec (setup S w.disk) w.state.bar (readings_of S w.disk) best rest

abbrev pub found_in : Site → World → Found
found_in S w = searched S w None (readings_of S w.disk)

-- What is best once a version was looked at.
abbrev pub looked : Site → World → Found → ℕ → Found
looked S w best v = better S.codec (setup S w.disk) w.state.bar (readings_of S w.disk) best v

-- The readings are looked at one by one, and these are the best after each.
abbrev pub Follows : Site → World → Found → List Reading → List Found → Type 0
Follows S w best [] [] = Unit {0}
Follows S w best [] (next ∷ more) = ⊥
Follows S w best (r ∷ rest) [] = ⊥
Follows S w best (r ∷ rest) (next ∷ more) = (looked S w best r.version ≡ next) × Follows S w next rest more

-- The last of them, or what was found before where there is none.
abbrev pub last_of : Found → List Found → Found
last_of best [] = best
last_of best (next ∷ more) = last_of next more

pub follows :
    (S : Site) (w : World) (best : Found) (rest : List Reading) (path : List Found) → Follows S w best rest path →
    searched S w best rest ≡ last_of best path
unfolding highest
follows S w best [] [] steps = refl
follows S w best [] (next ∷ more) steps = absurd steps
follows S w best (r ∷ rest) [] steps = absurd steps
follows S w best (r ∷ rest) (next ∷ more) steps = ap (λ z. searched S w z rest) steps.0 ∙ follows S w next rest more steps.1

-- The world after settling on what was found, and what is told.
abbrev pub settled_on : Site → World → Found → World
settled_on S w z = carried_out S unsure (settling_on w.state (readings_of S w.disk) z) w

abbrev pub told_of_settling : Site → World → Found → Reply
told_of_settling S w z = (settling_on w.state (readings_of S w.disk) z).reply
