use Rattle.std.proofs.Common.{◌≡◌, ◌-◌, ◌/◌, ◌≤◌, ◌^◌, ℕ, Bool, List, length, sym, ap, ◌∙◌, subst, arith}
use Rattle.std.specs.Prelude.{min, count_by}
use Rattle.std.proofs.lemmas.List.Sums.{count_by-le-length}
use Rattle.pdh_seconds.specs.Availability.{told}
use Rattle.pdh_seconds.specs.Counting.{tally_of}
use Rattle.pdh_timeline.specs.declared.state.State.{State}
use Rattle.pdh_timeline.specs.declared.state.State.TheVariants.{Out, Ais, Alarm}
use Rattle.pdh_timeline.specs.Marks.{Mark, is_errored, is_far, seconds_of}
use Rattle.pdh_track.specs.declared.track.Track.{Track}
use Rattle.pdh_track.specs.Standing.{rate_of, block_of, second_of, StandsFor as TrackStandsFor}
use Rattle.pdh_health.specs.declared.errors.Errors.{Errors}
use Rattle.pdh_health.specs.Courses.{lanes_of}
use Rattle.pdh_health.proofs.Fitting.{times_fit}
use Rattle.pdh_health.proofs.Coursing.{not_behind}
use Rattle.pdh_health.proofs.course.Course.finish.Goals as goal

counted : (test : Mark → Bool) (marks : List Mark) (count : ℕ) → length marks ≤ 2 ^ 63 → count ≡ min (count_by test marks) (2 ^ 64 - 1) → count ≡ count_by test marks
counted test marks count few is = let most : count_by test marks ≤ length marks = count_by-le-length test marks in omega (arith, most, few, is)

pub returns : goal.returns
returns c rate block marks codes place stands less few =
    let old = c.args.self.now in
    let kept = c.close_all.new.self in
    let bits = c.args.bits in
    let same : kept.track ≡ old.track = c.close_all.ensures.track in
    let track = subst (λ (t : Track). TrackStandsFor t marks) (sym same) stands.track_stands in
    let last : place ≤ bits - 1 = omega (arith, less) in
    let order = subst (λ (t : Track). second_of t ≤ (bits - 1) / rate_of t) (sym same) (not_behind old rate block marks codes place (bits - 1) stands last) in
    let fit = λ (state : State). times_fit state marks place bits (omega (arith, less)) (omega (arith, c.ranges.bits)) few (stands.times_lie state) in
    let rate_is : rate_of kept.track ≡ rate = ap rate_of same ∙ stands.rate_is in
    let block_is : block_of kept.track ≡ block = ap block_of same ∙ stands.block_is in
    record {
      out_is = c.sum-out.ensures marks track (fit Out);
      ais_is = c.sum-ais.ensures marks track (fit Ais);
      alarm_is = c.sum-alarm.ensures marks track (fit Alarm);
      blocks_are = counted is_errored marks kept.near.count few (ap (λ (e : Errors). e.count) (c.close_all.ensures.near ∙ stands.near_are));
      far_are = counted is_far marks kept.far.count few (ap (λ (e : Errors). e.count) (c.close_all.ensures.far ∙ stands.far_are));
      seconds_are = c.tally-seconds.ensures marks track order
          ∙ ap (λ r. tally_of (told (seconds_of (block_of kept.track) r bits marks))) rate_is ∙ ap (λ b. tally_of (told (seconds_of b rate bits marks))) block_is;
      cells_are = c.draw-cells.ensures (lanes_of bits marks codes) bits (c.close_all.ensures.cells rate block marks codes place stands less) (omega arith);
    }
