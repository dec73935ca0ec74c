-- What arrives of a sender's headers has the packet ids of those headers.
use Rattle.rtp_wire.proofs.Common.{◌≡◌, ℕ, List, [], ◌∷◌, map, refl, sym, subst, Option, Some, AllZip, Verdict, PacketId, IsRun, AreTrueVerdicts, AreTrueVerdicts-run, ExtensionMap, RtpHeader, packet_id_of, IsPacketId, ArePacketIds, AreVerdicts, Arrives, packet_ids_of, AreSent}
use Rattle.rtp_wire.specs.Written.{image_of}
use Rattle.rtp_wire.proofs.PacketIdLemmas.{one_packet_ids}

packet_id-image : (exts : ExtensionMap) (h : RtpHeader) → packet_id_of (image_of exts h) ≡ packet_id_of h
unfolding image_of
packet_id-image exts h = refl

packet_id_sent : (exts : ExtensionMap) (h : RtpHeader) (datagram : List ℕ) → Arrives exts h datagram → IsPacketId exts datagram (Some (packet_id_of h))
packet_id_sent exts h datagram arrives = record { header = image_of exts h; wire = arrives; packet_id_is = sym (packet_id-image exts h) }

AllZip-mapped : {A B C : Type 0} (R : A → B → Type 0) (S : B → C → Type 0) (f : A → C) → ((x : A) (y : B) → R x y → S y (f x)) → (xs : List A) (ys : List B) → AllZip R xs ys → AllZip S ys (map f xs)
AllZip-mapped R S f of [] [] all = tt
AllZip-mapped R S f of [] (y ∷ ys) all = absurd all
AllZip-mapped R S f of (x ∷ xs) [] all = absurd all
AllZip-mapped R S f of (x ∷ xs) (y ∷ ys) all = (of x y all.0, AllZip-mapped R S f of xs ys all.1)

pub packet_ids_sent : (exts : ExtensionMap) (headers : List RtpHeader) (datagrams : List (List ℕ)) (packet_ids : List (Option PacketId)) → AllZip (Arrives exts) headers datagrams
    → ArePacketIds exts datagrams packet_ids → packet_ids ≡ packet_ids_of headers
packet_ids_sent exts headers datagrams packet_ids arrive read =
    one_packet_ids exts datagrams packet_ids (packet_ids_of headers) read
    (AllZip-mapped (Arrives exts) (IsPacketId exts) (λ h. Some (packet_id_of h)) (packet_id_sent exts) headers datagrams arrive)

-- the verdicts on what arrives are those of the sender's numbers
pub AreTrueVerdicts-sent : (exts : ExtensionMap) (headers : List RtpHeader) (numbers : List ℕ) (datagrams : List (List ℕ)) (verdicts : List Verdict)
    → AreVerdicts exts datagrams verdicts → AreSent exts headers numbers datagrams → AreTrueVerdicts (packet_ids_of headers) numbers verdicts
AreTrueVerdicts-sent exts headers numbers datagrams verdicts are sent =
    AreTrueVerdicts-run 0 (packet_ids_of headers) verdicts numbers
    (subst (λ rs. IsRun 0 rs verdicts) (packet_ids_sent exts headers datagrams are.packet_ids sent.arrive are.are_packet_ids) are.run) sent.are_true
