use Rattle.std.proofs.Common.{◌+◌, ap, arith, length, length-take, length-drop}
use Rattle.pdh_packed.proofs.word.Word.without.Goals as goal

pub join-requires : goal.join-requires
join-requires c =
    let bits = c.args.self.now in
    let place = c.args.place in
    omega (arith, c.requires, c.len-few.ensures.bounded, ap length c.first.ensures, ap length c.after.ensures, length-take place bits, length-drop (place + 1) bits)
