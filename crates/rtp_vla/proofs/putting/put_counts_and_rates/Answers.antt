use Rattle.rtp_vla.proofs.Common.{◌≡◌, ◌≤◌, ◌+◌, ◌/◌, ◌++◌, ◌∙◌, sym, arith, ℕ, List, length, map, length-append, length-map, flat_map, active_layers, count_of, quarters_of, rate_bytes, take, count_bits, four_bytes, overwritten}
use Rattle.rtp_base.proofs.OverwritingLemmas.{overwritten-before}
use Rattle.rtp_vla.proofs.AllocationWritingLemmas.{length-quarters_of}
use Rattle.rtp_vla.proofs.CountBitsLemmas.{bytes-four}
use Rattle.rtp_vla.proofs.putting.put_counts_and_rates.Goals as goal

-- the rates, and then the counts before them
joined : (old mid new front counts rates : List ℕ) (at end : ℕ) → end ≡ at + length counts → end + length rates ≤ length old → mid ≡ overwritten old end rates → new ≡ overwritten mid at front
    → front ≡ counts → new ≡ overwritten old at (counts ++ rates)
joined old mid new front counts rates at end end-is room mid-is new-is front-is =
    new-is ∙ (λ i. overwritten (mid-is i) at (front-is i)) ∙ overwritten-before old counts rates at end end-is room

pub returns-clause-written : goal.returns-clause-written
returns-clause-written g c =
    let layers = active_layers (map g.S.Layered.stream c.args.streams.now) in
    let rates = flat_map rate_bytes layers in
    let word : c.put_rates-end.new.counts.bits ≡ count_bits 1073741824 layers = omega (arith, c.put_rates-end.ensures.bits) in
    let quarters = quarters_of (map count_of layers) in
    let counts : take ((c.args.active + 3) / 4) (four_bytes c.put_rates-end.new.counts.bits) ≡ quarters =
    (λ i. take ((c.requires.active i + 3) / 4) (four_bytes (word i)))
    ∙ sym (bytes-four layers (omega (arith, c.requires.active, c.requires.few)) c.requires.fit) in
    let before : c.args.at + (c.args.active + 3) / 4 ≡ c.args.at + length quarters =
    omega (arith, c.requires.active, length-quarters_of (map count_of layers), length-map layers count_of) in
    joined c.args.buf.now c.put_rates-end.new.buf c.put_counts.new.buf _ quarters rates c.args.at (c.args.at + (c.args.active + 3) / 4) before
    (omega (arith, before, c.requires.room, length-append quarters rates))
    c.put_rates-end.ensures.written
    c.put_counts.ensures counts
