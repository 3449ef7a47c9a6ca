use Rattle.std.proofs.Common.{refl}
use Rattle.pdh_cbit.specs.Channel.{latest_first, repeated_in}
use Rattle.pdh_cbit.proofs.feac.FeacReceiver.new.Goals as goal

pub returns : goal.returns
unfolding latest_first repeated_in
returns c = record { register = refl; repeated = refl }
