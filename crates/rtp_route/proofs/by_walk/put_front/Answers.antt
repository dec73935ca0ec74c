use Rattle.std.proofs.Common.{◌-◌, ◌∙◌, length, arith, sym}
use denote.Enum.Bare.{differs_true, differs_false}
use Rattle.rtp_ext.specs.contracts.form.ExtensionsForm.{the_type}
use Rattle.rtp_route.proofs.FrontLemmas.{front-same, front-other}
use Rattle.rtp_route.proofs.by_walk.put_front.Goals as goal
use Rattle.rtp_route.proofs.by_walk.put_front.Goals.{then-ne, else-ne}

pub returns : goal.returns
returns c =
    elim c.if-ne.branch [
      | then-ne w ↦
          front-other c.args.buf.now c.args.front.now (length c.args.front.now - 4) (omega (arith, c.requires.some)) c.args.was c.args.form c.args.body_len c.put-2.new.buf c.to_be_bytes.result c.if-ne.buf
          c.to_be_bytes.ensures c.put-2.ensures.written w.serialize.result c.put_header.new.buf (differs_true the_type _ _ (sym w.if-ne.ensures)) w.serialize.ensures c.put_header.ensures
          (w.buf-is ∙ w.put.ensures.written)
      | else-ne w ↦
          front-same c.args.buf.now c.args.front.now (length c.args.front.now - 4) (omega (arith, c.requires.some)) c.args.was c.args.form c.args.body_len c.put-2.new.buf c.to_be_bytes.result c.if-ne.buf
          c.to_be_bytes.ensures c.put-2.ensures.written (differs_false the_type tt _ _ (sym w.if-ne.ensures)) (w.buf-is ∙ c.put_header.ensures)
    ]
