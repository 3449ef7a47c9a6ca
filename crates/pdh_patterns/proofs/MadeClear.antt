-- The made schedule of a chain is within the tolerance, and has all frames that its nodes begin.
use Rattle.std.proofs.Common.{◌*◌, ℕ, [], sym, subst}
use Rattle.pdh_clock.specs.Contents.{Contents}
use Rattle.pdh_nesting.specs.Chains.{top_len}
use Rattle.pdh_nesting.specs.Sending.{AllWithin}
use Rattle.pdh_chain.specs.Chains.{shapes_of}
use Rattle.pdh_chain.specs.Calls.{IsScheduledWithin}
use Rattle.pdh_chain.specs.declared.chain.Chain.{Chain}
use Rattle.pdh_chain.proofs.ChainLaws.{are_frames, read_evenly, few_shapes}
use Rattle.pdh_patterns.specs.Leaves.{IsClockOf}
use Rattle.pdh_patterns.proofs.MadeWithin.{made_within}
use Rattle.pdh_patterns.proofs.Entered.{all_scheduled}

pub made_clear : (chain : Chain) (frames : ℕ) (clock : Contents) → IsClockOf chain frames clock → IsScheduledWithin (shapes_of chain) clock (frames * top_len (shapes_of chain))
made_clear chain frames clock is = record {
  tolerated = record {
    levels = few_shapes chain;
    frames = are_frames chain;
    even = read_evenly chain;
    within = subst (λ counts. AllWithin (shapes_of chain) counts [] (frames * top_len (shapes_of chain))) (sym is.counts_are) (made_within chain frames);
  };
  scheduled = all_scheduled chain frames clock is;
}
