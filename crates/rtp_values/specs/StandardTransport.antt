-- The transport-wide sequence number (transport-wide-cc-02): 16 bits, and where feedback is requested a bit for its timing and 15 bits with the count of its packets, which may be 0.
use Rattle.std.specs.Prelude.{◌==◌, nat_lt, if◌then◌else◌, ℕ, ◌+◌, ◌*◌, ◌/◌, ◌%◌, Bool, true, List, [], ◌++◌, length, take, drop, Option, Some, None}
use Rattle.rtp_base.specs.Flag.{bit}
use Rattle.rtp_values.specs.Values.{big_endian}
use Rattle.rtp_values.specs.Spelling.{bytes_of_number}
use Rattle.rtp_values.specs.declared.standard.transport_number.TransportNumber.{TransportNumber}
use Rattle.rtp_values.specs.declared.standard.transport_number.FeedbackRequest.{FeedbackRequest}

-- the request in 16 bits
abbrev pub request_in : ℕ → FeedbackRequest
request_in bits = record { timestamps = bits / 32768 == 1; packets = bits % 32768 }

-- what two or four bytes say
abbrev pub transport_in : List ℕ → TransportNumber
transport_in bytes = record {
  number = big_endian (take 2 bytes);
  request = if length bytes == 2 then None else Some (request_in (big_endian (drop 2 bytes)));
}

-- the 16 bits of a request
abbrev pub request_bits : FeedbackRequest → ℕ
request_bits request = bit request.timestamps * 32768 + request.packets

-- the bytes of a request, where there is one
abbrev pub request_bytes : Option FeedbackRequest → List ℕ
request_bytes None = []
request_bytes (Some request) = bytes_of_number 2 (request_bits request)

-- whether the count of its packets fits into its 15 bits
abbrev pub is_request : Option FeedbackRequest → Bool
is_request None = true
is_request (Some request) = nat_lt request.packets 32768

-- the data, where the request can be written
abbrev pub transport_data : TransportNumber → Option (List ℕ)
transport_data t = if is_request t.request then Some (bytes_of_number 2 t.number ++ request_bytes t.request) else None
