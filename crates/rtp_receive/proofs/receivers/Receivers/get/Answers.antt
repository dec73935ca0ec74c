use Rattle.std.proofs.Common.{arith, sym}
use Rattle.rtp_receive.proofs.ReceiversLemmas.{no_receiver, receiver_read}
use Rattle.rtp_receive.proofs.receivers.Receivers.get.Goals as goal

pub index-requires : goal.index-requires
index-requires c = omega (arith, (c.self.invariant.1.found c.args.ssrc c.in_ok-place.place (sym c.in_ok-place.ensures)).0, c.self.inside.sources.list.ok.0)

pub returns-in_err-place : goal.returns-in_err-place
returns-in_err-place c = rw c.from_residual.ensures (sym (no_receiver c.self.inside.rollover_count c.self.inside.sources.places c.self.inside.sources.list.items c.args.self.now c.args.ssrc c.self.view_is (sym c.in_err-place.ensures)))

pub returns : goal.returns
returns c = sym (receiver_read c.self.inside.rollover_count c.self.inside.sources.places c.self.inside.sources.list.items c.args.self.now c.args.ssrc c.self.view_is c.in_ok-place.place c.index.result.now c.self.invariant.1 (sym c.in_ok-place.ensures) c.index.ensures)
