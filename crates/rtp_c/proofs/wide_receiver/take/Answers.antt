use Rattle.rtp_c.proofs.Common.{◌<◌, length, refl, ◌∙◌, inl, inr, arith, ring_size, ring_bits, including}
use Rattle.rtp_c.proofs.StoredWideLemmas.{HoldsStored-kept, first_bit, HoldsWindow-some, first-kept, later-kept, kept_there, none, nothing}
use Rattle.rtp_c.proofs.wide_receiver.take.Goals as goal
use Rattle.rtp_c.proofs.wide_receiver.take.Goals.{then-receiver-eq0, else-receiver-eq0}

pub returns-clause-recorded : goal.returns-clause-recorded
returns-clause-recorded c count taken holds _ =
    let fresh = (c.accepts.ensures count taken holds).0 c.if-not-accepts.false in
    let words-some : 0 < length c.if-receiver-eq0.words = omega arith in
    HoldsStored-kept c.if-receiver-eq0.words c.get-receiver.result count (including taken c.args.number) words-some (elim c.if-receiver-eq0.branch [
      | then-receiver-eq0 w ↦ elim holds [
        | inl empty ↦
            let keeps = rw c.from-seq_no.ensures at w.ring_start.ensures.kept in
            kept_there w.ring_start.new.words c.if-receiver-eq0.words c.args.number c.get-receiver.result (including taken c.args.number) w.words-is
            (c.get-receiver.ensures ∙ w.highest-is ∙ c.from-seq_no.ensures)
            (first-kept c.args.words.now w.ring_start.new.words c.args.number taken (omega arith) empty.2 keeps)
        | inr held ↦ absurd (omega (arith, w.if-receiver-eq0.true, held.0))
      ]
      | else-receiver-eq0 w ↦ elim holds [
        | inl empty ↦ absurd (w.if-receiver-eq0.false empty.0)
        | inr held ↦
            let restored = rw c.from-highest.ensures at w.ring_restore.ensures.recorded in
            let accepts = rw (c.from-highest.ensures, c.from-seq_no.ensures) at w.ring_take.ensures.accepts in
            let recorded = rw (c.from-highest.ensures, c.from-seq_no.ensures) at w.ring_take.ensures.recorded in
            kept_there w.ring_take.new.words c.if-receiver-eq0.words w.ring_take.new.greatest c.get-receiver.result (including taken c.args.number) w.words-is
            (c.get-receiver.ensures ∙ w.highest-is)
            (later-kept c.args.words.now w.ring_restore.new.words w.ring_take.new.words c.args.receiver.now.highest c.args.number w.ring_take.new.greatest taken w.ring_take.result
            (omega arith) (omega arith) held.1 restored accepts recorded fresh)
      ]
    ])

pub returns-clause-started : goal.returns-clause-started
returns-clause-started c _ =
    let words-some : 0 < length c.if-receiver-eq0.words = omega arith in
    record {
      started_is = refl;
      highest_bit = elim c.if-receiver-eq0.branch [
        | then-receiver-eq0 w ↦
            let keeps = rw c.from-seq_no.ensures at w.ring_start.ensures.kept in
            first_bit c.if-receiver-eq0.words c.get-receiver.result (including none c.args.number) words-some
            (kept_there w.ring_start.new.words c.if-receiver-eq0.words c.args.number c.get-receiver.result (including none c.args.number) w.words-is
            (c.get-receiver.ensures ∙ w.highest-is ∙ c.from-seq_no.ensures)
            (first-kept c.args.words.now w.ring_start.new.words c.args.number none (omega arith) nothing keeps))
        | else-receiver-eq0 w ↦
            let held = HoldsWindow-some (ring_size c.args.words.now) c.args.receiver.now.highest (ring_bits c.args.words.now c.args.receiver.now.highest) (omega arith) in
            let fresh = (c.accepts.ensures 0 held.0 (inr (omega (arith, w.if-receiver-eq0.false), held.1))).0 c.if-not-accepts.false in
            let restored = rw c.from-highest.ensures at w.ring_restore.ensures.recorded in
            let accepts = rw (c.from-highest.ensures, c.from-seq_no.ensures) at w.ring_take.ensures.accepts in
            let recorded = rw (c.from-highest.ensures, c.from-seq_no.ensures) at w.ring_take.ensures.recorded in
            first_bit c.if-receiver-eq0.words c.get-receiver.result (including held.0 c.args.number) words-some
            (kept_there w.ring_take.new.words c.if-receiver-eq0.words w.ring_take.new.greatest c.get-receiver.result (including held.0 c.args.number) w.words-is
            (c.get-receiver.ensures ∙ w.highest-is)
            (later-kept c.args.words.now w.ring_restore.new.words w.ring_take.new.words c.args.receiver.now.highest c.args.number w.ring_take.new.greatest held.0 w.ring_take.result
            (omega arith) (omega arith) held.1 restored accepts recorded fresh))
      ];
    }
