-- What is true of each port has one proof at most.
use Rattle.std.specs.Prelude.{Bool, true, false, Option, Some, None}
use Rattle.std.proofs.Props.{props}
use Rattle.pdh_edge.specs.Files.{FailedCall, TellsFailed, Told}
use Rattle.pdh_edge.specs.Files.Told.{Untold, Known}
use Rattle.pdh_blocks.specs.State.{PortState}
use Rattle.pdh_blocks.specs.Held.{HoldsBytes, IsPort}

pub HoldsBytes-prop : (told : Told) → IsProp (HoldsBytes told)
HoldsBytes-prop Untold = hlevel props
HoldsBytes-prop (Known None) = hlevel props
HoldsBytes-prop (Known (Some bytes)) = hlevel props

pub TellsFailed-prop : (tells : Bool) (failed : FailedCall) (told : Option FailedCall) → IsProp (TellsFailed tells failed told)
TellsFailed-prop true failed told = hlevel props
TellsFailed-prop false failed told = hlevel props

pub IsPort-prop : (port : PortState) → IsProp (IsPort port)
IsPort-prop port = hlevel (props, HoldsBytes-prop, TellsFailed-prop)
