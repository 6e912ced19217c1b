-- A store of many objects: they share the next version's number, the file's number and which drives are in, and nothing else. What happens to the store,
-- seen from one object, is what happens to that object, other objects only moving numbers up.
-- Assumes nothing: what is asked of the world is a premise of each of its events, for each object.
use Rattle.std.specs.Prelude.{ℕ, ◌<◌, Bool, true, false, cond, List, Option, ◌==◌}
use Rattle.keeper.specs.Object.{Knowledge, Codec}
use Rattle.recovery.specs.Disk.{Format, Site, cut, MayCut, OnceBegun}
use Rattle.recovery.specs.Laws.{Laws}
use Rattle.recovery.specs.World.{Past, World, Call, outcome_of, Bearable}
use Rattle.recovery.specs.Events.{Given, stepped, coming_up, on_disk, forgotten, First, Run}
use Rattle.recovery.specs.Promise.{Safe}
use Rattle.recovery.specs.Progress.{CanGoOn}

-- The drives, the objects, and how each object's pieces are made and lie on drives.
pub record Depot : Type 0 where
  pub drives : ℕ
  pub need : ℕ
  pub objects : ℕ
  pub codec : ℕ → Codec
  pub format : ℕ → Format

abbrev pub site_of : Depot → ℕ → Site
site_of T o = record { drives = T.drives; need = T.need; codec = T.codec o; format = T.format o }

-- What is an object's own: its places and what was once begun there, its bar in the file, what the keeper knows of it, with the keeper's bar, and its history.
pub record Part : Type 0 where
  pub bytes : (drive place : ℕ) → List ℕ
  pub once : (drive place : ℕ) → List (ℕ × List ℕ)
  pub filed : ℕ
  pub known : Knowledge
  pub bar : ℕ
  pub past : Past

pub record Store : Type 0 where
  pub part : ℕ → Part
  pub out : ℕ → Bool
  pub next : ℕ
  pub number : ℕ
  pub filed : ℕ

-- The store as one object sees it.
abbrev pub seen_by : Part → Store → World
seen_by p s =
    record {
      disk = record { bytes = p.bytes; once = p.once; out = s.out; number = s.filed; bar = p.filed };
      state = record { known = p.known; bar = p.bar; next = s.next; number = s.number };
      past = p.past;
    }

abbrev pub seen : ℕ → Store → World
seen o s = seen_by (s.part o) s

-- The store in which an object and what it shares with others are as in its world, and nothing else of the others has changed.
abbrev pub part_of : World → Part
part_of w = record { bytes = w.disk.bytes; once = w.disk.once; filed = w.disk.bar; known = w.state.known; bar = w.state.bar; past = w.past }

abbrev pub putting : ℕ → World → Store → Store
putting o w s =
    record { part = λ p. cond (p == o) (part_of w) (s.part p); out = w.disk.out; next = w.state.next; number = w.state.number; filed = w.disk.number }

-- The keeper comes up: what it knows of every object is what the file says.
abbrev pub coming_up_all : Store → Store
coming_up_all s =
    record {
      part =
          λ p. record {
            bytes = (s.part p).bytes;
            once = (s.part p).once;
            filed = (s.part p).filed;
            known = (coming_up (seen p s).disk).known;
            bar = (coming_up (seen p s).disk).bar;
            past = (s.part p).past;
          };
      out = s.out;
      next = s.filed;
      number = s.filed;
      filed = s.filed;
    }

-- A drive goes out; a drive is in, with these bytes in its places, by object.
abbrev pub without_drive : ℕ → Store → Store
without_drive d s = record { part = s.part; out = λ x. cond (x == d) true (s.out x); next = s.next; number = s.number; filed = s.filed }

abbrev pub with_drive : ℕ → (ℕ → ℕ → List ℕ) → Store → Store
with_drive d what s =
    record {
      part =
          λ p. record {
            bytes = λ x k. cond (x == d) (what p k) ((s.part p).bytes x k);
            once = (s.part p).once;
            filed = (s.part p).filed;
            known = (s.part p).known;
            bar = (s.part p).bar;
            past = (s.part p).past;
          };
      out = λ x. cond (x == d) false (s.out x);
      next = s.next;
      number = s.number;
      filed = s.filed;
    }

-- The events of a store: those of one object, and those of all.
pub data Event : Type 0 where
  step : (object : ℕ) → Call → Event
  cut_short : (object : ℕ) → Call → (count : ℕ) → (left : Option (List ℕ)) → Event
  stop : Event
  breaks_off : (object : ℕ) → Call → (count : ℕ) → (left : Option (List ℕ)) → Event
  forgets : (object : ℕ) → Event
  failing : (object : ℕ) → Call → (count : ℕ) → (left : Option (List ℕ)) → (drive : ℕ) → Event
  goes_out : (drive : ℕ) → Event
  returns : (drive : ℕ) → (what : ℕ → ℕ → List ℕ) → Event

-- An object's acts cut short.
abbrev pub cutting : Depot → ℕ → Call → ℕ → Option (List ℕ) → Store → Store
cutting T o c n left s = putting o (on_disk (cut (site_of T o) (outcome_of (site_of T o) (seen o s) c).acts n left (seen o s).disk) (seen o s)) s

abbrev pub after : Depot → Event → Store → Store
after T (step o c) s = putting o (stepped (site_of T o) c (seen o s)) s
after T (cut_short o c n left) s = coming_up_all (cutting T o c n left s)
after T stop s = coming_up_all s
after T (breaks_off o c n left) s = cutting T o c n left s
after T (forgets o) s = putting o (forgotten (seen o s)) s
after T (failing o c n left d) s = without_drive d (cutting T o c n left s)
after T (goes_out d) s = without_drive d s
after T (returns d what) s = with_drive d what s

-- For every object not too many drives are weak.
abbrev pub AllBearable : Depot → Store → Type 0
AllBearable T s = (o : ℕ) → o < T.objects → Bearable (site_of T o) (seen o s)

abbrev pub MayCutAt : Depot → ℕ → Call → ℕ → Option (List ℕ) → Store → Type 0
MayCutAt T o c n left s = (o < T.objects) × Given c × MayCut (site_of T o) (outcome_of (site_of T o) (seen o s) c).acts n left (seen o s).disk

abbrev pub May : Depot → Event → Store → Type 0
May T (step o c) s = (o < T.objects) × Given c
May T (cut_short o c n left) s = MayCutAt T o c n left s
May T stop s = Unit {0}
May T (breaks_off o c n left) s = MayCutAt T o c n left s
May T (forgets o) s = o < T.objects
May T (failing o c n left d) s = MayCutAt T o c n left s × AllBearable T (after T (failing o c n left d) s)
May T (goes_out d) s = AllBearable T (after T (goes_out d) s)
May T (returns d what) s =
    ((o k : ℕ) → o < T.objects → OnceBegun ((s.part o).once d k) ((T.format o).decode d (what o k))) × AllBearable T (after T (returns d what) s)

pub data Runs (T : Depot) : Store → Type 0 where
  first : {s : Store} → ((o : ℕ) → o < T.objects → First (site_of T o) (seen o s)) → Runs T s
  then : {s : Store} → Runs T s → (e : Event) → May T e s → Runs T (after T e s)

-- What holds of an object holds of every object of a store, through every run of the store.
pub record EachObject (T : Depot) (s : Store) (o : ℕ) : Type 0 where
  pub run : Run (site_of T o) (seen o s)
  pub safe : Safe (site_of T o) (seen o s)
  pub onward : CanGoOn (site_of T o) (seen o s)

abbrev pub StoreSafety : Type 0
StoreSafety =
    (T : Depot) → ((o : ℕ) → o < T.objects → Laws (site_of T o)) → (s : Store) → Runs T s → (o : ℕ) → o < T.objects → EachObject T s o
