use Rattle.rtp_vla.proofs.Common.{◌≡◌, Bool, true, ap, ⊎_elim, arith, rules, next_len}
use Rattle.rtp_vla.proofs.AllocationParts.{next_len-read}
use Rattle.rtp_vla.proofs.layers.LayerReader.next.Goals as goal

pub put_rates-self-inside-requires-clause-room : goal.put_rates-self-inside-requires-clause-room
put_rates-self-inside-requires-clause-room g c =
    let r = c.self.inside in
    let active : c.args.is_active ≡ true = search rules in
    let len = next_len-read r.counts r.rates.now r.resolutions.now _ _ c.next.ensures.next in
    ⊎_elim
    (λ four. omega (arith, four, c.next.ensures.few, c.from-count.ensures))
    (λ fits. omega (arith, fits, ap (λ (b : Bool). next_len b c.args.self.now) active, ap (next_len true) c.self.view_is, len, c.from-count.ensures))
    c.requires.room
