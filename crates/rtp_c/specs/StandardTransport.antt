-- The transport-wide sequence number (transport-wide-cc-02), as C is told of it, and as C gives it.
use Rattle.std.specs.Prelude.{◌≡◌, List, ◌++◌, ℕ, ◌<◌, ◌≤◌}
use Rattle.rtp_values.specs.Spelling.{bytes_of_number}
use Rattle.rtp_values.specs.StandardTransport as transport
use Rattle.rtp_values.specs.declared.standard.transport_number.FeedbackRequest.{FeedbackRequest}
use Rattle.rtp_c.specs.Given.{given, is_nonzero}
use Rattle.rtp_c.specs.declared.standard.transport_number.TransportView.{TransportView}

-- the request that C gives, whether there is one or not
abbrev pub request_given : TransportView → FeedbackRequest
request_given view = record { timestamps = is_nonzero view.timestamps; packets = view.packets }

-- its 16 bits
abbrev pub request_bits : TransportView → ℕ
request_bits view = transport.request_bits (request_given view)

-- the data of a number, and of a request whose count fits into its 15 bits
pub record AreTransportData (view : TransportView) (bytes : List ℕ) : Type 0 where
  pub few : 0 < view.has_request → view.packets ≤ 32767
  pub bytes_are : bytes ≡ bytes_of_number 2 view.number ++ transport.request_bytes (given view.has_request (request_given view))

-- what C is told of a request: flags of 0 or 1, and 0 of one that isn't there
pub record IsToldRequest (view : TransportView) : Type 0 where
  pub has_request : view.has_request ≤ 1
  pub timestamps : view.timestamps ≤ view.has_request
  pub packets : view.has_request ≡ 0 → view.packets ≡ 0
