-- The listing: what the steps say one after another, and what a larger allowance changes.
use Rattle.index_run.specs.Run.{StepsAreTheListing}
use Rattle.index_run.specs.More as More

-- over unchanged memory the steps from a new cursor answer the items of the recursive listing, one after another, each with its count,
-- and then its ending for ever; under any allowance, and under none
abbrev pub Run : Type 0
Run = StepsAreTheListing

-- an answer other than "allowance spent" is the same under any larger allowance
abbrev pub MoreAllowance : Type 0
MoreAllowance = More.MoreChangesNothing

-- and in the full listing, whose allowance is never spent
abbrev pub FullListing : Type 0
FullListing = More.FullListing
