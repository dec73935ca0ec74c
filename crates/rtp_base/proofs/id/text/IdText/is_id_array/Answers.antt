use Rattle.rtp_base.proofs.Common.{◌≡◌, sym, subst, All, IsIdByte}
use Rattle.rtp_base.proofs.IdLemmas.{IsIdArray-from_parts, parts_of}
use Rattle.rtp_base.proofs.id.text.IdText.is_id_array.Goals as goal

pub returns-then-are_id_bytes : goal.returns-then-are_id_bytes
returns-then-are_id_bytes g c =
    let bytes = c.args.bytes.now in
    let n = c.text_len.result in
    let text = subst (All IsIdByte) c.split_at.ensures.front (c.are_id_bytes.ensures.0 c.if-are_id_bytes.true) in (
      λ spaces. IsIdArray-from_parts bytes n text (subst (All (λ b. b ≡ 32)) c.split_at.ensures.back (c.are_spaces.ensures.0 spaces)),
      λ is. c.are_spaces.ensures.1 (subst (All (λ b. b ≡ 32)) (sym c.split_at.ensures.back) (parts_of bytes n c.text_len.ensures.index is).1),
    )

pub returns-else-are_id_bytes : goal.returns-else-are_id_bytes
returns-else-are_id_bytes g c = (
  λ text. absurd cc,
  λ is. c.are_id_bytes.ensures.1 (subst (All IsIdByte) (sym c.split_at.ensures.front) (parts_of c.args.bytes.now c.text_len.result c.text_len.ensures.index is).0),
)
