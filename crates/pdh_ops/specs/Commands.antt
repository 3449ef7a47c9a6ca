-- The commands, each as a record that stands in a file of its own, in `pdh_making`, `pdh_recorded`, `pdh_linking` or `pdh_streams`.
use Rattle.pdh_words.specs.declared.commands.Command.{Command}
use Rattle.pdh_words.specs.declared.commands.Command.TheVariants.{Demux as DemuxWords, Mux as MuxWords, MuxSlip as MuxSlipWords, ClockCheck, ClockMake, Inspect as InspectWords, InspectE1, Show, E1Pack, E1Unpack, Ds1Pack, Ds1Unpack, Disturb as DisturbWords, Drill as DrillWords, Smooth as SmoothWords, Duplex as DuplexWords}
use Rattle.pdh_runner.specs.Operation.{Operation}
use Rattle.pdh_streams.specs.Codecs.{packing, unpacking}
use Rattle.pdh_streams.specs.E1.{e1_codec}
use Rattle.pdh_streams.specs.Ds1.{ds1_codec}
use Rattle.pdh_recorded.specs.Demux.{demuxing}
use Rattle.pdh_making.specs.Mux.{muxing, muxing_slips}
use Rattle.pdh_making.specs.Clock.{checking, making}
use Rattle.pdh_recorded.specs.Inspect.{inspecting, showing}
use Rattle.pdh_streams.specs.Inspect.{inspecting_e1}
use Rattle.pdh_recorded.specs.Disturb.{disturbing}
use Rattle.pdh_making.specs.Drill.{drilling}
use Rattle.pdh_recorded.specs.Smooth.{smoothing}
use Rattle.pdh_linking.specs.Duplex.{duplexing}

abbrev pub operation_of : Command → Operation
operation_of (DemuxWords chain bits) = demuxing chain bits
operation_of (MuxWords chain feac) = muxing chain feac
operation_of (MuxSlipWords chain) = muxing_slips chain
operation_of (ClockCheck chain) = checking chain
operation_of (ClockMake chain frames bias) = making chain frames bias
operation_of (InspectWords chain bits) = inspecting chain bits
operation_of InspectE1 = inspecting_e1
operation_of (Show chain frame) = showing chain frame
operation_of E1Pack = packing e1_codec
operation_of E1Unpack = unpacking e1_codec
operation_of (Ds1Pack form) = packing (ds1_codec form)
operation_of (Ds1Unpack form) = unpacking (ds1_codec form)
operation_of (DisturbWords chain) = disturbing chain
operation_of (DrillWords chain seed frames) = drilling chain seed frames
operation_of (SmoothWords chain) = smoothing chain
operation_of (DuplexWords chain seed frames) = duplexing chain seed frames
