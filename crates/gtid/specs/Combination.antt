-- Private: two sets combined into one.
use Rattle.std.specs.Prelude.{Bool, ◌&&◌, ◌||◌, not}
use Rattle.gtid.specs.declared.combination.Combination.{Combination}
use Rattle.gtid.specs.declared.combination.Combination.TheVariants.{Union, Difference}

-- which members a combination keeps, by whether each of the two sets has them
abbrev pub keeps : Combination → Bool → Bool → Bool
keeps Union left right = left || right
keeps Difference left right = left && not right
