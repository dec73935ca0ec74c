use Rattle.rtp_values.specs.declared.kind.Extension.TheVariants.{RtpStreamId, RepairedRtpStreamId}
use Rattle.rtp_c.proofs.RetransmissionLemmas.{RenameKinds-bytes}
use Rattle.rtp_c.proofs.retransmission.rtpw_new_ids_to_retransmission.Goals as goal

pub returns-clause-kinds : goal.returns-clause-kinds
returns-clause-kinds c =
    let renamed = c.to_retransmission.ensures in
    RenameKinds-bytes RtpStreamId RepairedRtpStreamId c.args.map.now.kind c.ids-ids.result _ (record { each = renamed.each; no_id = renamed.no_id }) c.ids-ids.ensures.ids
