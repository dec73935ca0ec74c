use Rattle.rtp_c.proofs.standing.rtpw_wide_receiver_standing_of.Goals as goal

pub returns-clause-told : goal.returns-clause-told
returns-clause-told c few count taken holds = record { standing = c.standing_in.result; has = c.standing_in.ensures count taken holds; told_is = c.number_of.ensures }
