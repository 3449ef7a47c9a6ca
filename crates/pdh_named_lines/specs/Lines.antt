-- The lines that words name.
use Rattle.std.specs.Prelude.{ℕ, Bool, List, [], Option}
use Rattle.pdh_line.specs.Paths.{top}
use Rattle.pdh_candidates.specs.declared.word.Word.{Word}
use Rattle.pdh_candidates.specs.declared.word.Word.TheVariants as word
use Rattle.pdh_chain.specs.declared.chain.Chain.{Chain}
use Rattle.pdh_chain.specs.declared.chain.Chain.TheVariants as chain
use Rattle.pdh_chain.specs.Chains.{shapes_of}
use Rattle.pdh_chain.specs.Trees.{receiver_of}
use Rattle.pdh_ds1.specs.Plans.{sf_plan, sf_f_bits, esf_plan, esf_f_bits}
use Rattle.pdh_ds1_events.specs.Line.{superframe_meaning}
use Rattle.pdh_e1_events.specs.Line.{e1_meaning}
use Rattle.pdh_placed.specs.Lines.{LineMeaning, line_meaning}
use Rattle.pdh_following.specs.declared.line.Followed.{Followed}
use Rattle.pdh_following.specs.Following.{AreAll, IsFollowed}
use Rattle.pdh_named_lines.specs.Levels.{top_level, plans_of}

-- what the line of a chain shows, and what its nodes count
abbrev pub chain_meaning : Chain → LineMeaning
chain_meaning chain = line_meaning (receiver_of (shapes_of chain) top 0)

-- what the line that a word names shows, and what its nodes count
abbrev pub meaning_of : Word → LineMeaning
meaning_of word.E14 = chain_meaning chain.E14
meaning_of word.E24 = chain_meaning chain.E24
meaning_of word.E34 = chain_meaning chain.E34
meaning_of word.E13 = chain_meaning chain.E13
meaning_of word.E23 = chain_meaning chain.E23
meaning_of word.C13 = chain_meaning chain.C13
meaning_of word.M13 = chain_meaning chain.M13
meaning_of word.C13Top = chain_meaning chain.C13
meaning_of word.M23 = chain_meaning chain.M23
meaning_of word.E12 = chain_meaning chain.E12
meaning_of word.M12 = chain_meaning chain.M12
meaning_of word.E1 = e1_meaning
meaning_of word.Ds1Esf = superframe_meaning esf_f_bits esf_plan
meaning_of word.Ds1Sf = superframe_meaning sf_f_bits sf_plan

-- All bits of a recording, where they are known, were followed as a line of this meaning, with the rate and the nodes of the line that a
-- word names.
abbrev pub IsFollowedAs : {W : Type 0} → (W → Option (List ℕ)) → LineMeaning → Word → ℕ → Option (List Bool) → Option W → Followed W → Type 0
IsFollowedAs contents meaning word from given file followed =
    (bits : List Bool) × AreAll given bits × IsFollowed contents meaning (top_level word).rate from (plans_of word (meaning.counted [])) file bits followed
