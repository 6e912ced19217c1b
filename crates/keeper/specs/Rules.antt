-- Which of an object's pieces a step takes away.
-- Assumes nothing.
use Rattle.std.specs.Prelude.{Bool, not, ◌&&◌, ◌||◌, ◌==◌, nat_lt}
use Rattle.keeper.specs.declared.clearing.Rule.{Rule}
use Rattle.keeper.specs.declared.clearing.Rule.TheVariants.{OnDriveBut, OnDriveBelow, AllBut}
use Rattle.keeper.specs.Object.{Reading}

-- On a drive all versions but one; on a drive all versions below one; on all drives all versions but two.
abbrev pub names : Rule → Reading → Bool
names (OnDriveBut d v) r = r.drive == d && not (r.version == v)
names (OnDriveBelow d v) r = r.drive == d && nat_lt r.version v
names (AllBut v w) r = not (r.version == v || r.version == w)
