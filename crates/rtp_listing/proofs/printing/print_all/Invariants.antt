use Rattle.std.proofs.Common.{◌≡◌, ◌<◌, length, take}
use Rattle.rtp_listing.proofs.PrintingLemmas.{Printing}
use Rattle.rtp_listing.proofs.printing.print_all.Given as goal

-- the lines of the datagrams so far are written or in the text, behind which is room for two more
abbrev pub invariant-loop-rest : goal.invariant-loop-rest
invariant-loop-rest g l = record {
  room : length l.text ≡ 16384;
  short : l.len < 8192;
  printing : Printing l.input.exts l.input.datagrams.now l.rest l.packet (g.W.Write.contents l.initial.output) (g.W.Write.contents l.output) (take l.len l.text) l.receivers;
}

abbrev pub decreases-loop-rest : goal.decreases-loop-rest
decreases-loop-rest g l = length l.rest
