-- The span and the mark of a request about a station (this project).
use Rattle.std.specs.Prelude.{ℤ, pos, ◌+ℤ◌, Option, None, option_and_then}
use Rattle.std.specs.Option.{option_map}
use Rattle.cert_text.specs.declared.certificate.Certificate.{Certificate}
use Rattle.peak_text.specs.declared.certificate.PeakCertificate.{PeakCertificate}
use Rattle.question.specs.declared.question.Question.{Question}
use Rattle.station_span.specs.declared.span_request.SpanRequest.{SpanRequest}

-- the span and the mark of a question, or None if it has no begin or no end
unfoldable pub request_by_question : Question → Option SpanRequest
request_by_question question =
    option_and_then (λ begin. option_map (λ end. record { begin = begin; end = end; mark = question.mark }) question.end) question.begin

-- the request for the 1,440 minutes from the minute `now` on, without a mark
abbrev pub request_from_minute : ℤ → SpanRequest
request_from_minute now = record { begin = now; end = now +ℤ pos 1440; mark = None }

-- the span and the mark of a certificate
abbrev pub request_by_certificate : Certificate → SpanRequest
request_by_certificate cert = record { begin = cert.begin; end = cert.end; mark = cert.mark }

-- the span of a certificate of a highest water, without a mark
abbrev pub request_by_peak_certificate : PeakCertificate → SpanRequest
request_by_peak_certificate cert = record { begin = cert.begin; end = cert.end; mark = None }
