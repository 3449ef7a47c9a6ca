use Rattle.std.proofs.Common.{◌≡◌, ◌*◌, length, min, take, drop, ap, ◌∙◌, arith}
use Rattle.pdh_readings.specs.Orders.{read_as}
use Rattle.pdh_recording.proofs.Blocks.{read_length}
use Rattle.pdh_recording.proofs.Giving.{Cut, cut_of, next_given, next_last, next_whole}
use Rattle.pdh_recording.proofs.recording.Recording.next.Goals as goal

pub append_wanted-count-requires : goal.append_wanted-count-requires
append_wanted-count-requires g c =
    let block = c.in_ok-block.block.items in
    let long : length c.in-Ok.bits.bits ≡ 8 * length block = ap length (c.in-Ok.ensures ∙ ap (read_as c.args.order) c.deref.ensures.value) ∙ read_length c.args.order block in
    let none : length c.clear.new.self.bits ≡ 0 = simp c.clear.ensures in
    let same : c.clear.new.self.capacity ≡ c.args.into.now.capacity = simp c.clear.ensures in
    omega (arith, none, same, long, c.in_ok-block.ensures.few, c.requires.room)

pub returns-clause-given : goal.returns-clause-given
returns-clause-given g c =
    let old = c.args.self.now in
    let new = c.read_block.new.self in
    let all = c.in-Ok.bits.bits in
    let count = c.append_wanted-count.result in
    let bits = c.append_wanted-count.new.into.bits in
    let block = c.in_ok-block.block.items in
    let made : bits ≡ take count (drop (min (length all) new.skip) all) = simp (c.append_wanted-count.ensures.bits, c.clear.ensures) in
    let cut : Cut c.args.order old.skip old.left count block bits =
    cut_of c.args.order old.skip old.left new.skip new.left count block c.deref.result.now all bits c.in_ok-block.ensures.skip c.in_ok-block.ensures.left
    c.deref.ensures.value c.in-Ok.ensures c.append_wanted-count.ensures.count made in
    next_given c.args.order old.skip old.left new.left count _ _ block bits cut old.skips c.in_ok-block.ensures.left c.in_ok-block.ensures.read c.in_ok-block.ensures.whole

pub returns-clause-last : goal.returns-clause-last
returns-clause-last g c =
    let old = c.args.self.now in
    let new = c.read_block.new.self in
    let all = c.in-Ok.bits.bits in
    let count = c.append_wanted-count.result in
    let bits = c.append_wanted-count.new.into.bits in
    let block = c.in_ok-block.block.items in
    let made : bits ≡ take count (drop (min (length all) new.skip) all) = simp (c.append_wanted-count.ensures.bits, c.clear.ensures) in
    let cut : Cut c.args.order old.skip old.left count block bits =
    cut_of c.args.order old.skip old.left new.skip new.left count block c.deref.result.now all bits c.in_ok-block.ensures.skip c.in_ok-block.ensures.left
    c.deref.ensures.value c.in-Ok.ensures c.append_wanted-count.ensures.count made in
    next_last c.args.order old.skip old.left new.left count _ block bits cut old.skips c.in_ok-block.ensures.left c.in_ok-block.ensures.whole

pub returns-clause-whole : goal.returns-clause-whole
returns-clause-whole g c =
    let old = c.args.self.now in
    let new = c.read_block.new.self in
    let all = c.in-Ok.bits.bits in
    let count = c.append_wanted-count.result in
    let bits = c.append_wanted-count.new.into.bits in
    let block = c.in_ok-block.block.items in
    let made : bits ≡ take count (drop (min (length all) new.skip) all) = simp (c.append_wanted-count.ensures.bits, c.clear.ensures) in
    let cut : Cut c.args.order old.skip old.left count block bits =
    cut_of c.args.order old.skip old.left new.skip new.left count block c.deref.result.now all bits c.in_ok-block.ensures.skip c.in_ok-block.ensures.left
    c.deref.ensures.value c.in-Ok.ensures c.append_wanted-count.ensures.count made in
    λ none sized. next_whole c.args.order old.skip old.left new.left count block bits cut old.skips c.in_ok-block.ensures.left (c.in_ok-block.ensures.sized sized) none
