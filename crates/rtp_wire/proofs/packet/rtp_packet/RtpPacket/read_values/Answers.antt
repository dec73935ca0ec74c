use Rattle.rtp_wire.proofs.Common.{subst, OnErr, on_ok_weaker, on_err_weaker, ReadElements-itself, ReadUntilRefused-itself, AreElements, AreElements-found, parts_of, BlockHasAllocation, AreValuesStopped}
use Rattle.rtp_ext.specs.ElementReading.{elements_left}
use Rattle.rtp_wire.proofs.ValuesLemmas.{HasValues-none, HasValues-read, AreValuesStopped-refused, BlockHasAllocation-stopped}
use Rattle.rtp_wire.proofs.packet.rtp_packet.RtpPacket.read_values.Goals as goal

pub returns-in_default-clause-found : goal.returns-in_default-clause-found
returns-in_default-clause-found g c = HasValues-none (g.K.Kinds.slots c.args.exts.now) _ c.args.values.now c.in_default.ensures.parts c.requires

-- the elements of the body
elements : (g : _) (c : goal.After-read_values g) → AreElements c.in-Some.form c.in-Some.body.now (elements_left c.in-Some.form c.in-Some.body.now)
elements g c = AreElements-found c.in-Some.form c.in-Some.body.now c.in-Some.ensures.bytes

pub returns-clause-found : goal.returns-clause-found
returns-clause-found g c =
    HasValues-read (g.K.Kinds.slots c.args.exts.now) _ c.in-Some.form c.in-Some.body.now _ c.args.values.now c.read_values.new.ev c.read_values.result c.in-Some.ensures.parts (elements g c) c.requires
    (on_ok_weaker c.read_values.result (λ read elements are. ReadElements-itself (g.K.Kinds.slots c.args.exts.now) elements c.args.values.now c.read_values.new.ev (read elements are)) c.read_values.ensures.values)

-- what stands where memory was refused
stopped : (g : _) (c : goal.After-read_values g) → OnErr c.read_values.result (AreValuesStopped (g.K.Kinds.slots c.args.exts.now) (parts_of c.args.self.now).block c.read_values.new.ev)
stopped g c =
    AreValuesStopped-refused (g.K.Kinds.slots c.args.exts.now) _ c.in-Some.form c.in-Some.body.now _ c.args.values.now c.read_values.new.ev c.read_values.result c.in-Some.ensures.parts (elements g c) c.requires
    (on_err_weaker c.read_values.result (λ refused elements are. ReadUntilRefused-itself (g.K.Kinds.slots c.args.exts.now) elements c.args.values.now c.read_values.new.ev (refused elements are).1) c.read_values.ensures.refused)

pub returns-clause-memory : goal.returns-clause-memory
returns-clause-memory g c = BlockHasAllocation-stopped (g.K.Kinds.slots c.args.exts.now) _ c.read_values.new.ev c.read_values.result (stopped g c)

pub returns-clause-stopped : goal.returns-clause-stopped
returns-clause-stopped g c = stopped g c

pub returns-clause-succeeds : goal.returns-clause-succeeds
returns-clause-succeeds g c none =
    c.read_values.ensures.succeeds _ (elements g c) (λ _ has. none (subst (BlockHasAllocation (g.K.Kinds.slots c.args.exts.now)) c.in-Some.ensures.parts (record { elements = elements_left c.in-Some.form c.in-Some.body.now; are_elements = elements g c; has_allocation = has })))
