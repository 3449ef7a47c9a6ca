use Rattle.std.proofs.Common.{◌≡◌, ◌≤◌, ◌+◌, ◌%◌, suc, List, Bool, length, sym, ◌∙◌, inl, arith}
use Rattle.std.proofs.lemmas.List.Elements.{All-same, All-weaker}
use Rattle.pdh_bits.specs.BitOut.{BoundedBits}
use Rattle.pdh_interleaving.specs.Interleaving.{dealt}
use Rattle.pdh_interleaving.proofs.DealtLaws.{dealt_none, room_after_dealt}
use Rattle.pdh_runs.specs.Columns.{payload_bits}
use Rattle.pdh_runs.proofs.DealingLaws.{whole_words, whole_next, dealt_next, seven_at}
use Rattle.pdh_runs.proofs.dealing.deal_by_seven.Goals as goal

pub loop-done-init : goal.loop-done-init
loop-done-init g c = record {
  within = omega arith;
  whole = inl (omega arith);
  dealt = sym (dealt_none (payload_bits g.S.Shape.shape c.args.frame.now.bits) c.args.tributaries.now);
}

pub deal_seven-requires-clause-room : goal.deal_seven-requires-clause-room
deal_seven-requires-clause-room g c =
    let lists = c.args.tributaries.now in
    let done = c.loop-done.done in
    let count = c.min-count.result in
    let line : List Bool = payload_bits g.S.Shape.shape c.args.frame.now.bits in
    let within : done + count ≤ c.LOW.result + 1 = omega (arith, c.min-count.ensures, c.loop-done.invariant.within) in
    let room = All-weaker (λ (list : BoundedBits). length list.bits + (g.S.Shape.LOW + 1) ≤ list.capacity) (λ (list : BoundedBits). length list.bits + (done + count) ≤ list.capacity)
    (λ list all. omega (arith, all, within, c.LOW.ensures)) lists c.requires.room in
    All-same (λ (list : BoundedBits). length list.bits + count ≤ list.capacity) c.loop-done.tributaries (dealt done line lists) c.loop-done.invariant.dealt (room_after_dealt done count line lists room)

pub loop-done-preserved : goal.loop-done-preserved
loop-done-preserved g c =
    let s = g.S.Shape.shape in
    let done = c.loop-done.done in
    let count = c.min-count.result in
    let all : c.LOW.result + 1 ≡ suc s.low = omega (arith, c.LOW.ensures, g.met.S.Shape.low_is) in
    let tribs : s.tribs ≡ 7 = g.met.S.Shape.tribs_is ∙ c.requires.known in
    let within : done + count ≤ c.LOW.result + 1 = omega (arith, c.min-count.ensures, c.loop-done.invariant.within) in
    let few : count ≤ 64 = omega (arith, c.min-count.ensures) in
    let whole : done % 64 ≡ 0 = whole_words c.loop-done.invariant.whole (omega (arith, c.loop-done-test.true)) in
    let is = seven_at s g.met.S.Shape.in_turn c.args.words.now c.requires.words c.args.frame.now.bits c.read_words.new.into done count (c.LOW.result + 1) all within whole few tribs c.read_words.ensures.room c.read_words.ensures.read in
    record {
      within = within;
      whole = whole_next done count (c.LOW.result + 1) (omega (arith, c.loop-done-test.true)) whole c.min-count.ensures;
      dealt = dealt_next done count 7 _ (payload_bits s c.args.frame.now.bits) c.args.tributaries.now c.loop-done.tributaries c.deal_seven.new.tributaries c.deal_seven.ensures c.loop-done.invariant.dealt c.requires.seven is;
    }
