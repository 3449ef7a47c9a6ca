use Rattle.std.proofs.Common.{◌≡◌, ◌+◌, ◌≤◌, true, false, Bool, List, length, get_or, refl, sym, ap, ◌∙◌, arith}
use Rattle.std.specs.Prelude.{nat_le}
use Rattle.std.proofs.lemmas.Bool.{le-leb}
use Rattle.pdh_packed.proofs.PlacesLaws.{length-overwritten, overwritten-at}
use Rattle.pdh_phases.proofs.PlaneLaws.{longer-reaches, written-length, written-at, written-elsewhere}
use Rattle.pdh_phases.proofs.planes.Planes.lengthen.Goals as goal

pub invariant_of-self : goal.invariant_of-self
invariant_of-self c =
    let planes = c.args.self.now in
    let phase = c.args.phase in
    let stands = c.args.stands in
    let in_twice : phase + length stands ≤ length planes.twice = omega (arith, c.requires, planes.whole) in
    let thrice = written-length planes.twice stands phase in_twice in
    let twice = written-length planes.once stands phase c.requires in
    let a : length c.write.new.self ≡ length planes.once = ap length c.write.ensures ∙ length-overwritten phase stands planes.once c.requires in
    let b : length c.write_masked-2.new.self ≡ length planes.twice = ap length c.write_masked-2.ensures ∙ length-overwritten phase _ planes.twice (omega (arith, twice, in_twice)) in
    let d : length c.write_masked.new.self ≡ length planes.thrice = ap length c.write_masked.ensures ∙ length-overwritten phase _ planes.thrice (omega (arith, thrice, c.requires, planes.whole)) in
    record { whole = (omega (arith, a, b, planes.whole), omega (arith, a, d, planes.whole)) }

pub returns-clause-inside : goal.returns-clause-inside
returns-clause-inside c i run lt shows =
    let planes = c.args.self.now in
    let phase = c.args.phase in
    let stands = c.args.stands in
    let in_twice : phase + length stands ≤ length planes.twice = omega (arith, c.requires, planes.whole) in
    let in_thrice : phase + length stands ≤ length planes.thrice = omega (arith, c.requires, planes.whole) in
    let some : true ≡ nat_le 0 run = sym (le-leb 0 run (omega arith)) in
    record {
      once = ap (λ (x : List Bool). get_or x (phase + i) false) c.write.ensures ∙ overwritten-at phase stands planes.once i (omega (arith, c.requires)) lt
          ∙ longer-reaches 0 run true (get_or stands i false) (omega arith) some;
      twice = written-at planes.once planes.twice c.write_masked-2.new.self stands phase i 1 run c.requires in_twice lt (omega arith) c.write_masked-2.ensures shows.once;
      thrice = written-at planes.twice planes.thrice c.write_masked.new.self stands phase i 2 run in_twice in_thrice lt (omega arith) c.write_masked.ensures shows.twice;
    }

pub returns-clause-outside : goal.returns-clause-outside
returns-clause-outside c k run apart shows =
    let planes = c.args.self.now in
    let phase = c.args.phase in
    let stands = c.args.stands in
    let in_twice : phase + length stands ≤ length planes.twice = omega (arith, c.requires, planes.whole) in
    let in_thrice : phase + length stands ≤ length planes.thrice = omega (arith, c.requires, planes.whole) in
    let twice = written-length planes.once stands phase c.requires in
    let thrice = written-length planes.twice stands phase in_twice in
    record {
      once = written-elsewhere stands planes.once c.write.new.self phase k (length stands) refl c.requires apart c.write.ensures ∙ shows.once;
      twice = written-elsewhere _ planes.twice c.write_masked-2.new.self phase k (length stands) twice in_twice apart c.write_masked-2.ensures ∙ shows.twice;
      thrice = written-elsewhere _ planes.thrice c.write_masked.new.self phase k (length stands) thrice in_thrice apart c.write_masked.ensures ∙ shows.thrice;
    }
