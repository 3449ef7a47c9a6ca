use Rattle.pdh_claims_of_files.proofs.blocks.full_block_waits.Goals as goal

pub returns : goal.returns
returns g c k output at = c.put_all.new.self.port.room k output at
