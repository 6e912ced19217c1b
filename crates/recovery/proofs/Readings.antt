-- What the list of readings has: exactly the pieces on drives that are in, by drive and place; and what the tests over it say.
use Rattle.std.proofs.Common.{◌≡◌, ℕ, zero, suc, ◌+◌, ◌<◌, ◌≤◌, Bool, true, false, cond, not, ◌||◌, eqb, ltb, ◌⊎◌, List, [], ◌∷◌, ◌++◌, map, filter, sym, refl, ap, ◌∙◌, subst, inl, inr, arith}
use mathlib.Core.List.{Memᴰ}
use Rattle.std.proofs.lemmas.Bool.{false≢true, true≢false, or_cases, or_left, or_right, eqb-true, eq-eqb, and_parts, and_from, not-true, not_from_false, ltb-true, lt-ltb, cases_order}
use Rattle.keeper.specs.Object.{Reading}
use Rattle.keeper.specs.Readings.{is_of, holder, precedes, copied, counts_as, pieces_of}
use Rattle.keeper.specs.Steps.{places}
use Rattle.recovery.specs.Disk.{Slot, empty, holds, Site, Disk, slot_at, with_reading, read_places, read_drives, readings_of, is_version, has_from, has}
use Rattle.recovery.specs.Laws.{Distinct}
use Rattle.recovery.proofs.Lists.{any_mem, mem_any, mem_kept, kept_mem, mem_map}

-- The reading of a place.
abbrev pub as_read : (d k v : ℕ) → List ℕ → Reading
as_read d k v p = record { drive = d; place = k; version = v; piece = p }

pub record Read (S : Site) (D : Disk) (r : Reading) : Type 0 where
  pub inside : r.drive < S.drives
  pub low : r.place < 4
  pub is_in : D.out r.drive ≡ false
  pub slot : slot_at S D r.drive r.place ≡ holds r.version r.piece

pub record OnDrive (S : Site) (D : Disk) (c d k : ℕ) (r : Reading) : Type 0 where
  pub drive : r.drive ≡ d
  pub from : k ≤ r.place
  pub below : r.place < k + c
  pub slot : slot_at S D r.drive r.place ≡ holds r.version r.piece

pub mem_places : (S : Site) (D : Disk) (c d k : ℕ) {r : Reading} → Memᴰ r (read_places S D c d k) → OnDrive S D c d k r
unfolding read_places
mem_places S D zero d k m = absurd (mathlib.Core.List.Memᴰ.not-nil m)
mem_places S D (suc n) d k {r} m = go (slot_at S D d k) refl m (mem_places S D n d (suc k))
  where
    later : OnDrive S D n d (suc k) r → OnDrive S D (suc n) d k r
    later o = record { drive = o.drive; from = omega (arith, o.from); below = omega (arith, o.below); slot = o.slot }

    here : (v : ℕ) (p : List ℕ) → slot_at S D d k ≡ holds v p → r ≡ as_read d k v p → OnDrive S D (suc n) d k r
    here v p e q =
        let a : r.drive ≡ d = ap (λ (x : Reading). x.drive) q in
        let b : r.place ≡ k = ap (λ (x : Reading). x.place) q in
        record {
          drive = a;
          from = omega (arith, b);
          below = omega (arith, b);
          slot = subst (λ (x : Reading). slot_at S D x.drive x.place ≡ holds x.version x.piece) (sym q) e;
        }

    go : (s : Slot) → slot_at S D d k ≡ s → Memᴰ r (with_reading d k s (read_places S D n d (suc k))) → (Memᴰ r (read_places S D n d (suc k)) → OnDrive S D n d (suc k) r) → OnDrive S D (suc n) d k r
    go empty e m' f = later (f m')
    go (holds v p) e m' f = elim (mathlib.Core.List.Memᴰ.cases_cons m') [ inl q ↦ here v p e q | inr q ↦ later (f q) ]

places_mem : (S : Site) (D : Disk) (c d k x v : ℕ) (p : List ℕ) → slot_at S D d x ≡ holds v p → k ≤ x → x < k + c → Memᴰ (as_read d x v p) (read_places S D c d k)
unfolding read_places
places_mem S D zero d k x v p h a b = absurd (omega arith)
places_mem S D (suc n) d k x v p h a b = go (cases_order k x) (places_mem S D n d (suc k) x v p h)
  where
    further : (s : Slot) → Memᴰ (as_read d x v p) (read_places S D n d (suc k)) → Memᴰ (as_read d x v p) (with_reading d k s (read_places S D n d (suc k)))
    further empty m = m
    further (holds y q) m = mathlib.Core.List.Memᴰ.tail m

    go : (k ≡ x) ⊎ ((k < x) ⊎ (x < k)) → (suc k ≤ x → x < suc k + n → Memᴰ (as_read d x v p) (read_places S D n d (suc k))) → Memᴰ (as_read d x v p) (with_reading d k (slot_at S D d k) (read_places S D n d (suc k)))
    go (inl e) f =
        let q : slot_at S D d k ≡ holds v p = subst (λ y. slot_at S D d y ≡ holds v p) (sym e) h in
        subst (λ s. Memᴰ (as_read d x v p) (with_reading d k s (read_places S D n d (suc k)))) (sym q) (mathlib.Core.List.Memᴰ.head (ap (λ y. as_read d y v p) (sym e)))
    go (inr (inl l)) f = further (slot_at S D d k) (f (omega arith) (omega arith))
    go (inr (inr l)) f = absurd (omega arith)

pub record OnDrives (S : Site) (D : Disk) (c d : ℕ) (r : Reading) : Type 0 where
  pub from : d ≤ r.drive
  pub below : r.drive < d + c
  pub low : r.place < 4
  pub is_in : D.out r.drive ≡ false
  pub slot : slot_at S D r.drive r.place ≡ holds r.version r.piece

pub mem_drives : (S : Site) (D : Disk) (c d : ℕ) {r : Reading} → Memᴰ r (read_drives S D c d) → OnDrives S D c d r
unfolding read_drives
mem_drives S D zero d m = absurd (mathlib.Core.List.Memᴰ.not-nil m)
mem_drives S D (suc n) d {r} m = go (D.out d) refl (mathlib.Core.List.Memᴰ.append_cases (cond (D.out d) [] (read_places S D places d 0)) m) (mem_drives S D n (suc d))
  where
    later : OnDrives S D n (suc d) r → OnDrives S D (suc n) d r
    later o = record { from = omega (arith, o.from); below = omega (arith, o.below); low = o.low; is_in = o.is_in; slot = o.slot }

    here : D.out d ≡ false → OnDrive S D 4 d 0 r → OnDrives S D (suc n) d r
    here e o = record { from = omega (arith, o.drive); below = omega (arith, o.drive); low = omega (arith, o.below); is_in = subst (λ x. D.out x ≡ false) (sym o.drive) e; slot = o.slot }

    go : (b : Bool) → D.out d ≡ b → Memᴰ r (cond b [] (read_places S D places d 0)) ⊎ Memᴰ r (read_drives S D n (suc d)) → (Memᴰ r (read_drives S D n (suc d)) → OnDrives S D n (suc d) r) → OnDrives S D (suc n) d r
    go b e (inr q) f = later (f q)
    go true e (inl q) f = absurd (mathlib.Core.List.Memᴰ.not-nil q)
    go false e (inl q) f = here e (mem_places S D 4 d 0 q)

drives_mem : (S : Site) (D : Disk) (c d x k v : ℕ) (p : List ℕ) → d ≤ x → x < d + c → k < 4 → D.out x ≡ false → slot_at S D x k ≡ holds v p → Memᴰ (as_read x k v p) (read_drives S D c d)
unfolding read_drives
drives_mem S D zero d x k v p a b l o h = absurd (omega arith)
drives_mem S D (suc n) d x k v p a b l o h = go (cases_order d x) (λ f g. drives_mem S D n (suc d) x k v p f g l o h)
  where
    go : (d ≡ x) ⊎ ((d < x) ⊎ (x < d)) → (suc d ≤ x → x < suc d + n → Memᴰ (as_read x k v p) (read_drives S D n (suc d))) → Memᴰ (as_read x k v p) (cond (D.out d) [] (read_places S D places d 0) ++ read_drives S D n (suc d))
    go (inl e) f =
        let q : D.out d ≡ false = subst (λ y. D.out y ≡ false) (sym e) o in
        let m : Memᴰ (as_read d k v p) (read_places S D 4 d 0) = places_mem S D 4 d 0 k v p (subst (λ y. slot_at S D y k ≡ holds v p) (sym e) h) (omega arith) (omega arith) in
        let m' : Memᴰ (as_read x k v p) (read_places S D 4 d 0) = subst (λ y. Memᴰ (as_read y k v p) (read_places S D 4 d 0)) e m in
        mathlib.Core.List.Memᴰ.append_left (read_drives S D n (suc d)) (subst (λ c. Memᴰ (as_read x k v p) (cond c [] (read_places S D places d 0))) (sym q) m')
    go (inr (inl g)) f = mathlib.Core.List.Memᴰ.append_right (cond (D.out d) [] (read_places S D places d 0)) (f (omega arith) (omega arith))
    go (inr (inr g)) f = absurd (omega arith)

-- A reading in the list is a piece on a drive that is in; and every such piece is in the list.
pub mem_read : (S : Site) (D : Disk) {r : Reading} → Memᴰ r (readings_of S D) → Read S D r
mem_read S D m = let o = mem_drives S D S.drives 0 m in record { inside = omega (arith, o.below); low = o.low; is_in = o.is_in; slot = o.slot }

pub read_mem : (S : Site) (D : Disk) (d k v : ℕ) (p : List ℕ) → d < S.drives → k < 4 → D.out d ≡ false → slot_at S D d k ≡ holds v p → Memᴰ (as_read d k v p) (readings_of S D)
read_mem S D d k v p a l o h = drives_mem S D S.drives 0 d k v p (omega arith) (omega arith) l o h

-- Of the readings of one drive a later one has a higher place.
unfoldable pub Ordered : List Reading → Type 0
Ordered [] = Unit {0}
Ordered (r ∷ rs) = ((q : Reading) → Memᴰ q rs → q.drive ≡ r.drive → r.place < q.place) × Ordered rs

ordered_append : (xs ys : List Reading) → Ordered xs → Ordered ys → ((x y : Reading) → Memᴰ x xs → Memᴰ y ys → y.drive ≡ x.drive → ⊥) → Ordered (xs ++ ys)
unfolding Ordered
ordered_append [] ys a b h = b
ordered_append (x ∷ xs) ys a b h = (first, ordered_append xs ys a.1 b (λ u v m n. h u v (mathlib.Core.List.Memᴰ.tail m) n))
  where
    first : (q : Reading) → Memᴰ q (xs ++ ys) → q.drive ≡ x.drive → x.place < q.place
    first q m e = elim (mathlib.Core.List.Memᴰ.append_cases xs m) [ inl n ↦ a.0 q n e | inr n ↦ absurd (h x q (mathlib.Core.List.Memᴰ.head refl) n e) ]

places_ordered : (S : Site) (D : Disk) (c d k : ℕ) → Ordered (read_places S D c d k)
unfolding read_places Ordered
places_ordered S D zero d k = tt
places_ordered S D (suc n) d k = go (slot_at S D d k) (places_ordered S D n d (suc k))
  where
    go : (s : Slot) → Ordered (read_places S D n d (suc k)) → Ordered (with_reading d k s (read_places S D n d (suc k)))
    go empty o = o
    go (holds v p) o = (λ q m e. let z = (mem_places S D n d (suc k) m).from in omega arith, o)

drives_ordered : (S : Site) (D : Disk) (c d : ℕ) → Ordered (read_drives S D c d)
unfolding read_drives Ordered
drives_ordered S D zero d = tt
drives_ordered S D (suc n) d = ordered_append (cond (D.out d) [] (read_places S D places d 0)) (read_drives S D n (suc d)) (own (D.out d)) (drives_ordered S D n (suc d)) (apart (D.out d))
  where
    own : (b : Bool) → Ordered (cond b [] (read_places S D places d 0))
    own true = tt
    own false = places_ordered S D 4 d 0

    apart : (b : Bool) (x y : Reading) → Memᴰ x (cond b [] (read_places S D places d 0)) → Memᴰ y (read_drives S D n (suc d)) → y.drive ≡ x.drive → ⊥
    apart true x y m q e = mathlib.Core.List.Memᴰ.not-nil m
    apart false x y m q e =
        let a = (mem_places S D 4 d 0 m).drive in
        let b = (mem_drives S D n (suc d) q).from in
        omega arith

pub readings_ordered : (S : Site) (D : Disk) → Ordered (readings_of S D)
readings_ordered S D = drives_ordered S D S.drives 0

ordered_kept : (p : Reading → Bool) (rs : List Reading) → Ordered rs → Ordered (filter p rs)
unfolding Ordered
ordered_kept p [] o = tt
ordered_kept p (r ∷ rs) o = go (p r) (ordered_kept p rs o.1)
  where
    go : (b : Bool) → Ordered (filter p rs) → Ordered (cond b (r ∷ filter p rs) (filter p rs))
    go true k = (λ q m e. o.0 q (mem_kept p rs m).0 e, k)
    go false k = k

distinct_ordered : (rs : List Reading) → Ordered rs → ((r q : Reading) → Memᴰ r rs → Memᴰ q rs → q.drive ≡ r.drive → r.place < q.place → ⊥) → Distinct (map (λ r. r.drive) rs)
unfolding Ordered Distinct
distinct_ordered [] o h = tt
distinct_ordered (r ∷ rs) o h = (clash, distinct_ordered rs o.1 (λ a b m n. h a b (mathlib.Core.List.Memᴰ.tail m) (mathlib.Core.List.Memᴰ.tail n)))
  where
    clash : Memᴰ r.drive (map (λ (x : Reading). x.drive) rs) → ⊥
    clash m = let q = mem_map (λ (x : Reading). x.drive) rs m in h r q.0 (mathlib.Core.List.Memᴰ.head refl) (mathlib.Core.List.Memᴰ.tail q.1) (sym q.2) (o.0 q.0 q.1 (sym q.2))

-- The tests.
pub of_true : (d v : ℕ) (r : Reading) → is_of d v r ≡ true → (r.drive ≡ d) × (r.version ≡ v)
of_true d v r h = let q = and_parts (eqb r.drive d) (eqb r.version v) h in (eqb-true r.drive d q.0, eqb-true r.version v q.1)

pub true_of : (d v : ℕ) (r : Reading) → r.drive ≡ d → r.version ≡ v → is_of d v r ≡ true
true_of d v r a b = and_from (eqb r.drive d) (eqb r.version v) (eq-eqb r.drive d a) (eq-eqb r.version v b)

pub record Lower (rs : List Reading) (r : Reading) : Type 0 where
  pub other : Reading
  pub among : Memᴰ other rs
  pub drive : other.drive ≡ r.drive
  pub version : other.version ≡ r.version
  pub lower : other.place < r.place

pub copied_lower : (rs : List Reading) (r : Reading) → copied rs r ≡ true → Lower rs r
copied_lower rs r h =
    let q = mem_any (precedes r) rs h in
    let a = and_parts (is_of r.drive r.version q.0) (ltb q.0.place r.place) q.2 in
    let b = of_true r.drive r.version q.0 a.0 in
    record { other = q.0; among = q.1; drive = b.0; version = b.1; lower = ltb-true q.0.place r.place a.1 }

pub lower_copied : (rs : List Reading) (r : Reading) → Lower rs r → copied rs r ≡ true
lower_copied rs r l =
    any_mem (precedes r) l.among (and_from (is_of r.drive r.version l.other) (ltb l.other.place r.place) (true_of r.drive r.version l.other l.drive l.version) (lt-ltb l.other.place r.place l.lower))

-- A drive's first reading of a version is no copy.
pub record Original (rs : List Reading) (d v : ℕ) : Type 0 where
  pub reading : Reading
  pub among : Memᴰ reading rs
  pub drive : reading.drive ≡ d
  pub version : reading.version ≡ v
  pub own : copied rs reading ≡ false

pub original : (rs : List Reading) (n d v : ℕ) (r : Reading) → r.place < n → Memᴰ r rs → r.drive ≡ d → r.version ≡ v → Original rs d v
original rs zero d v r l m a b = absurd (omega arith)
original rs (suc n) d v r l m a b = go (copied rs r) refl (original rs n d v)
  where
    go : (c : Bool) → copied rs r ≡ c → ((q : Reading) → q.place < n → Memᴰ q rs → q.drive ≡ d → q.version ≡ v → Original rs d v) → Original rs d v
    go false e f = record { reading = r; among = m; drive = a; version = b; own = e }
    go true e f = let q = copied_lower rs r e in f q.other (omega (arith, q.lower)) q.among (q.drive ∙ a) (q.version ∙ b)

-- Pieces of a version: each from the list, of that version, and no two of one drive.
pub mem_pieces : (v : ℕ) (rs : List Reading) {r : Reading} → Memᴰ r (pieces_of v rs) → Memᴰ r rs × (r.version ≡ v) × (copied rs r ≡ false)
mem_pieces v rs {r} m =
    let q = mem_kept (counts_as rs v) rs m in
    let a = and_parts (eqb r.version v) (not (copied rs r)) q.1 in
    (q.0, eqb-true r.version v a.0, not-true (copied rs r) a.1)

pub pieces_mem : (v : ℕ) (rs : List Reading) {r : Reading} → Memᴰ r rs → r.version ≡ v → copied rs r ≡ false → Memᴰ r (pieces_of v rs)
pieces_mem v rs {r} m a b = kept_mem (counts_as rs v) m (and_from (eqb r.version v) (not (copied rs r)) (eq-eqb r.version v a) (not_from_false (copied rs r) b))

pub pieces_apart : (v : ℕ) (rs : List Reading) → Ordered rs → Distinct (map (λ r. r.drive) (pieces_of v rs))
pieces_apart v rs o = distinct_ordered (pieces_of v rs) (ordered_kept (counts_as rs v) rs o) clash
  where
    clash : (r q : Reading) → Memᴰ r (pieces_of v rs) → Memᴰ q (pieces_of v rs) → q.drive ≡ r.drive → r.place < q.place → ⊥
    clash r q m n e l =
        let a = mem_pieces v rs m in
        let b = mem_pieces v rs n in
        true≢false (sym (lower_copied rs q (record { other = r; among = a.0; drive = sym e; version = a.1 ∙ sym b.1; lower = l })) ∙ b.2)

-- Which drives have a version, by the list and by the places.
pub record Holding (S : Site) (D : Disk) (d v : ℕ) : Type 0 where
  pub place : ℕ
  pub low : place < 4
  pub piece : List ℕ
  pub slot : slot_at S D d place ≡ holds v piece

is_version_lem : (v : ℕ) (s : Slot) → is_version v s ≡ true → (p : List ℕ) × (s ≡ holds v p)
is_version_lem v empty h = absurd (false≢true h)
is_version_lem v (holds x p) h = (p, ap (λ y. holds y p) (eqb-true x v h))

has_from_lem : (S : Site) (D : Disk) (c d k v : ℕ) → k + c ≤ 4 → has_from S D c d k v ≡ true → Holding S D d v
unfolding has_from
has_from_lem S D zero d k v l h = absurd (false≢true h)
has_from_lem S D (suc n) d k v l h = go (or_cases (is_version v (slot_at S D d k)) (has_from S D n d (suc k) v) h) (has_from_lem S D n d (suc k) v)
  where
    go : (is_version v (slot_at S D d k) ≡ true) ⊎ (has_from S D n d (suc k) v ≡ true) → (suc k + n ≤ 4 → has_from S D n d (suc k) v ≡ true → Holding S D d v) → Holding S D d v
    go (inl e) f = let q = is_version_lem v (slot_at S D d k) e in record { place = k; low = omega arith; piece = q.0; slot = q.1 }
    go (inr e) f = f (omega arith) e

from_has : (S : Site) (D : Disk) (c d k x v : ℕ) (p : List ℕ) → slot_at S D d x ≡ holds v p → k ≤ x → x < k + c → has_from S D c d k v ≡ true
unfolding has_from
from_has S D zero d k x v p h a b = absurd (omega arith)
from_has S D (suc n) d k x v p h a b = go (cases_order k x) (from_has S D n d (suc k) x v p h)
  where
    go : (k ≡ x) ⊎ ((k < x) ⊎ (x < k)) → (suc k ≤ x → x < suc k + n → has_from S D n d (suc k) v ≡ true) → (is_version v (slot_at S D d k) || has_from S D n d (suc k) v) ≡ true
    go (inl e) f = or_left (is_version v (slot_at S D d k)) (has_from S D n d (suc k) v) (subst (λ y. is_version v (slot_at S D d y) ≡ true) (sym e) (subst (λ s. is_version v s ≡ true) (sym h) (eq-eqb v v refl)))
    go (inr (inl l)) f = or_right (is_version v (slot_at S D d k)) (has_from S D n d (suc k) v) (f (omega arith) (omega arith))
    go (inr (inr l)) f = absurd (omega arith)

pub has_holding : (S : Site) (D : Disk) (d v : ℕ) → has S D d v ≡ true → Holding S D d v
has_holding S D d v h = has_from_lem S D 4 d 0 v (omega arith) h

pub holding_has : (S : Site) (D : Disk) (d v : ℕ) → Holding S D d v → has S D d v ≡ true
holding_has S D d v h = from_has S D 4 d 0 h.place v h.piece h.slot (omega arith) (omega (arith, h.low))

pub holder_holding : (S : Site) (D : Disk) (d v : ℕ) → holder d v (readings_of S D) ≡ true → Holding S D d v × (D.out d ≡ false)
holder_holding S D d v h =
    let q = mem_any (is_of d v) (readings_of S D) h in
    let a = of_true d v q.0 q.2 in
    let b = mem_read S D q.1 in
    let e : slot_at S D d q.0.place ≡ holds v q.0.piece = subst (λ y. slot_at S D d q.0.place ≡ holds y q.0.piece) a.1 (subst (λ x. slot_at S D x q.0.place ≡ holds q.0.version q.0.piece) a.0 b.slot) in
    (record { place = q.0.place; low = b.low; piece = q.0.piece; slot = e }, subst (λ x. D.out x ≡ false) a.0 b.is_in)

pub holding_mem : (S : Site) (D : Disk) (d v : ℕ) → d < S.drives → D.out d ≡ false → (h : Holding S D d v) → Memᴰ (as_read d h.place v h.piece) (readings_of S D)
holding_mem S D d v l o h = read_mem S D d h.place v h.piece l h.low o h.slot

pub holding_holder : (S : Site) (D : Disk) (d v : ℕ) → d < S.drives → D.out d ≡ false → Holding S D d v → holder d v (readings_of S D) ≡ true
holding_holder S D d v l o h = any_mem (is_of d v) (holding_mem S D d v l o h) (true_of d v (as_read d h.place v h.piece) refl refl)
