use Rattle.rtp_ext.proofs.Common.{sym, subst, List, OnOk, OnErr, Element, AreElements, ReadUntilRefused, ReadElements}
use Rattle.rtp_ext.proofs.block_values.read_values.Goals as goal

pub returns-in-OneByte-clause-values : goal.returns-in-OneByte-clause-values
returns-in-OneByte-clause-values g c =
    subst (λ form. OnOk c.read_in.result ((elements : List Element) → AreElements form c.args.buf.now elements
    → ReadElements g.V.SetValues.shows (g.K.Kinds.slots c.args.exts.now) elements c.args.ev.now c.read_in.new.ev)) (sym c.in-OneByte.is) c.read_in.ensures.values

pub returns-in-OneByte-clause-refused : goal.returns-in-OneByte-clause-refused
returns-in-OneByte-clause-refused g c =
    subst (λ form. OnErr c.read_in.result ((elements : List Element) → AreElements form c.args.buf.now elements
    → g.V.SetValues.may_be_refused × ReadUntilRefused g.V.SetValues.shows (g.K.Kinds.slots c.args.exts.now) elements c.args.ev.now c.read_in.new.ev)) (sym c.in-OneByte.is) c.read_in.ensures.refused

pub returns-in-TwoByte-clause-values : goal.returns-in-TwoByte-clause-values
returns-in-TwoByte-clause-values g c =
    let told = c.read_in-in-TwoByte in
    subst (λ form. OnOk told.result ((elements : List Element) → AreElements form c.args.buf.now elements
    → ReadElements g.V.SetValues.shows (g.K.Kinds.slots c.args.exts.now) elements c.args.ev.now told.new.ev)) (sym c.in-TwoByte.is) told.ensures.values

pub returns-in-TwoByte-clause-refused : goal.returns-in-TwoByte-clause-refused
returns-in-TwoByte-clause-refused g c =
    let told = c.read_in-in-TwoByte in
    subst (λ form. OnErr told.result ((elements : List Element) → AreElements form c.args.buf.now elements
    → g.V.SetValues.may_be_refused × ReadUntilRefused g.V.SetValues.shows (g.K.Kinds.slots c.args.exts.now) elements c.args.ev.now told.new.ev)) (sym c.in-TwoByte.is) told.ensures.refused
