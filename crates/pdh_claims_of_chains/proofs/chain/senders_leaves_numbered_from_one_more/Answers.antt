use Rattle.std.proofs.Common.{◌≡◌, ◌+◌, ap, ◌∙◌, arith, true, subst, ℕ}
use Rattle.std.proofs.lemmas.Result.{IfOk-weaker}
use Rattle.pdh_line.specs.Paths.{top}
use Rattle.pdh_tx.specs.Meaning.{Meaning}
use Rattle.pdh_chain.specs.Trees.{sender_of}
use Rattle.pdh_chain.proofs.TreeLeaves.{leaf_known}
use Rattle.pdh_chain.proofs.Senders.{senders}
use Rattle.pdh_claims_of_chains.proofs.chain.senders_leaves_numbered_from_one_more.Goals as goal

pub returns : goal.returns
returns g c =
    IfOk-weaker c.open_sender.result _ _ (λ sender is k known.
    let number : 0 + k ≡ k = omega arith in
    ap (λ (m : Meaning). m.leaves k) is ∙ subst (λ (n : ℕ). (sender_of g.T.ChainTx.shapes top 0).leaves n ≡ true) number (leaf_known senders g.T.ChainTx.shapes top 0 k known)) c.open_sender.ensures.meaning
