use Rattle.std.proofs.Common.{sym, subst, false, List}
use Rattle.rtp_ext.specs.Elements.{Element, AreElements}
use Rattle.rtp_ext.specs.BlockValues.{ReadElements, ShowsApart}
use Rattle.rtp_ext.proofs.block_values.read_apart.Goals as goal

pub returns-in-OneByte-clause-read : goal.returns-in-OneByte-clause-read
returns-in-OneByte-clause-read g c =
    let told = c.read_apart_in in
    subst (λ form. (elements : List Element) → AreElements form c.args.buf.now elements
    → ReadElements (ShowsApart g.V.SetValues.shows g.L.SetLayers.shows) (g.K.Kinds.slots c.args.exts.now) elements
    (c.args.ev.now, c.args.layers.now, false) (told.new.ev, told.new.layers, told.result)) (sym c.in-OneByte.is) told.ensures.read

pub returns-in-TwoByte-clause-read : goal.returns-in-TwoByte-clause-read
returns-in-TwoByte-clause-read g c =
    let told = c.read_apart_in-in-TwoByte in
    subst (λ form. (elements : List Element) → AreElements form c.args.buf.now elements
    → ReadElements (ShowsApart g.V.SetValues.shows g.L.SetLayers.shows) (g.K.Kinds.slots c.args.exts.now) elements
    (c.args.ev.now, c.args.layers.now, false) (told.new.ev, told.new.layers, told.result)) (sym c.in-TwoByte.is) told.ensures.read
