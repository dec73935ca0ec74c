use Rattle.rtp_c.proofs.Common.{ℕ, List, Option, refl, subst, new_id, NotRetransmitted, KeepsFromSending}
use Rattle.rtp_c.proofs.RetransmissionLemmas.{refused_not_ok}
use Rattle.rtp_c.proofs.retransmission.rtpw_to_retransmission.Goals as goal

pub returns-in-Err-clause-length : goal.returns-in-Err-clause-length
returns-in-Err-clause-length c original payload done is without = absurd (refused_not_ok c.in-Err.cause c.refusal.result c.refusal.ensures done)

pub returns-in-Err-clause-behind : goal.returns-in-Err-clause-behind
returns-in-Err-clause-behind c done = absurd (refused_not_ok c.in-Err.cause c.refusal.result c.refusal.ensures done)

pub returns-in-Err-clause-block_header : goal.returns-in-Err-clause-block_header
returns-in-Err-clause-block_header c done = absurd (refused_not_ok c.in-Err.cause c.refusal.result c.refusal.ensures done)

pub returns-in-Err-clause-refused : goal.returns-in-Err-clause-refused
returns-in-Err-clause-refused c fits = (
  λ _. subst (λ (ids : List (Option ℕ)). (cause : NotRetransmitted) × KeepsFromSending (new_id ids) c.args.buf.now c.args.len.now cause) c.from_ids.ensures
      (c.in-Err.ensures.refused.0 refl),
  λ kept done. refused_not_ok c.in-Err.cause c.refusal.result c.refusal.ensures done,
)
