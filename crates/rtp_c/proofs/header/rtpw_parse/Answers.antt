use Rattle.rtp_c.proofs.Common.{◌↔◌, ℕ, ℤ, List, inl, inr, rules, HasNoHeader, header_there, HeaderView, IsHeaderStatus}
use Rattle.rtp_c.specs.HeaderView.{IsHeaderRead}
use Rattle.rtp_c.proofs.HeaderStatusLemmas.{HasNoHeader-status}
use Rattle.rtp_c.proofs.StatusLemmas.{passed_on}
use Rattle.rtp_c.proofs.header.rtpw_parse.Goals as goal

refused : (numbers bytes : List ℕ) (status : ℤ) (old new : HeaderView) → IsHeaderRead numbers bytes status old new → IsHeaderStatus bytes status ↔ HasNoHeader bytes
refused numbers bytes status old new (inl is) =
    let wire = is.1.begins.is_wire in
    (λ refusal. HasNoHeader-status bytes status refusal, λ none. absurd (header_there bytes wire.parts wire.is_packet wire.no_other none))
refused numbers bytes status old new (inr is) = (λ refusal. HasNoHeader-status bytes status refusal, λ _. is.0)

pub returns-clause-refused : goal.returns-clause-refused
returns-clause-refused c =
    let call = c.read_header in
    passed_on call.result (search rules) (λ (z : ℤ). IsHeaderStatus c.args.buf.now z ↔ HasNoHeader c.args.buf.now)
    (refused c.args.map.now.kind c.args.buf.now call.result c.args.header.now call.new.header call.ensures)
