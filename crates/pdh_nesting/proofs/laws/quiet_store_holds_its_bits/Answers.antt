use Rattle.pdh_line.proofs.EventLaws.{read_before_came, came_before_fits}
use Rattle.pdh_nesting.proofs.laws.quiet_store_holds_its_bits.Goals as goal

pub returns-clause-least : goal.returns-clause-least
returns-clause-least c s counts trib frame slot is has known inside quiet = read_before_came s counts trib frame slot is has known quiet.lasts inside

pub returns-clause-most : goal.returns-clause-most
returns-clause-most c s counts trib frame slot is has known inside few quiet = came_before_fits s counts trib frame slot is has known few quiet.fits inside
