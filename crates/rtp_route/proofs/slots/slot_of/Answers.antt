use Rattle.std.proofs.Common.{refl, sym, ap, ◌∙◌, [], ◌∷◌, ◌≡◌, arith}
use Rattle.std.specs.List.{filter}
use Rattle.rtp_ext.specs.PutElement.{has_id}
use Rattle.rtp_wire.specs.Packet.{block_len}
use Rattle.rtp_route.proofs.LengthLemmas.{short-header, short-data}
use Rattle.rtp_route.proofs.SlotsFound.{slot-found, row-in}
use Rattle.rtp_route.proofs.OnlyLemmas.{filter-none}
use Rattle.rtp_route.proofs.slots.slot_of.Goals as goal

pub returns-in_err-place-clause-found : goal.returns-in_err-place-clause-found
returns-in_err-place-clause-found c form elements new row only id_is =
    let none = c.in_err-place.ensures.none elements (row-in c.args.packet.now form c.in_ok-form.form c.in_ok-form.body.now elements c.in_ok-form.ensures.parts row) in
    let empty : [] ≡ new ∷ [] = sym (filter-none c.args.id elements none) ∙ ap (λ id. filter (has_id id) elements) id_is ∙ only in
    absurd cc

pub returns-clause-found : goal.returns-clause-found
returns-clause-found c form elements new row only id_is = (
  _,
  refl,
  slot-found c.args.packet.now form c.in_ok-form.form c.in_ok-form.body.now elements new c.args.id c.in_ok-place.place _ c.header_len.result c.in_ok-form.ensures.parts row only id_is
      c.in_ok-place.ensures.id c.in_ok-place.ensures.lies c.header_len.ensures refl refl,
)

pub overflow_cast-result : goal.overflow_cast-result
overflow_cast-result c =
    let lies = c.in_ok-place.ensures.lies.lies in
    let long = ap block_len c.in_ok-form.ensures.parts in
    omega (arith, c.header_len.ensures, short-header c.args.packet.now, long, c.in_ok-place.ensures.within, lies.end_is)

pub overflow_cast-result-2 : goal.overflow_cast-result-2
overflow_cast-result-2 c =
    let lies = c.in_ok-place.ensures.lies.lies in
    omega (arith, lies.end_is, short-data c.in_ok-form.form c.in_ok-place.place.id lies.bytes lies.is_element)
