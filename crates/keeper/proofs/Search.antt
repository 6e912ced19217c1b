-- The steps of the loop that looks for the highest version that can be settled on.
use Rattle.std.proofs.Common.{◌≡◌, ℕ, ◌+◌, ◌<◌, ◌≤◌, List, length, get_or, drop}
use Rattle.std.proofs.lemmas.List.{drop_all}
use Rattle.keeper.specs.declared.object.Entry.{Entry}
use Rattle.keeper.specs.Object.{Reading, Setup, Codec}
use Rattle.keeper.specs.Shown.{readings_of}
use Rattle.keeper.specs.Steps.{Found, better, highest}
use Rattle.keeper.proofs.Scan.{drop_read}

module _ (C : Codec) (u : Setup) (bar : ℕ) (rs : List Reading) (es : List Entry) (i : ℕ) (best : Found) where
  pub highest_more : (x : Entry) (after : Found) → i < length es → x ≡ get_or es i x → after ≡ better C u bar rs best x.version → highest C u bar rs best (readings_of (drop i es)) ≡ highest C u bar rs after (readings_of (drop (i + 1) es))
  unfolding highest
  highest_more x after l r e = let seen = drop_read es i x l r in rw (seen, e)

  pub highest_end : length es ≤ i → highest C u bar rs best (readings_of (drop i es)) ≡ best
  unfolding highest
  highest_end l = rw (drop_all i es l)
