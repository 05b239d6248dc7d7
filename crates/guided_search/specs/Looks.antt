-- What a look at the ways into a pair finds.
use Rattle.std.specs.Prelude.{ℕ, ◌<◌, ◌≤◌, IsFalse}
use Rattle.guided_search.specs.declared.look.Look.{Look}
use Rattle.guided_search.specs.declared.look.Look.TheVariants.{Admissible, Least, Run}
use Rattle.residual_ways.specs.Steps.{IsStepWithin}
use Rattle.residual_ways.specs.Ways.{IsWayWithin}
use Rattle.residual_ways.specs.declared.sizes.Sizes.{Sizes}

-- the step of an admissible way is one of the building, and begins no later than a moment if it is forwards;
-- a run begins no earlier than a moment, in the building; a label is one
abbrev pub IsLookWithin : Sizes → ℕ → Look → Type 0
IsLookWithin sizes moment (Admissible index step) = IsStepWithin sizes step × (IsFalse step.back → step.moment ≤ moment)
IsLookWithin sizes moment (Run index way since) = IsWayWithin sizes way × (moment ≤ since) × (since < sizes.moments)
IsLookWithin sizes moment (Least label index) = label ≤ 65535
