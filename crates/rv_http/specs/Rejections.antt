-- A request that is rejected before its body is looked at: the status and the body of the response.
use Rattle.std.specs.Prelude.{ℕ, List, codes}
use Rattle.rv_http.specs.declared.rejection.Rejection.{Rejection}
use Rattle.rv_http.specs.declared.rejection.Rejection.TheVariants.{BadHead, Unauthorized, NoRoute, OtherMethod, LengthRequired, BodyTooLarge, HeadTooLarge, CodingNotServed}

-- 400 for a head that can't be read, 401 without an account, 404 where nothing is served, 405 for another method, 411 where a length is
-- missing, 413 and 431 for a body and a head that are too large, and 501 for a coding that is not served (RFC 9110, section 15; RFC 6585,
-- section 5)
abbrev pub rejection_status : Rejection → ℕ
rejection_status BadHead = 400
rejection_status Unauthorized = 401
rejection_status NoRoute = 404
rejection_status OtherMethod = 405
rejection_status LengthRequired = 411
rejection_status BodyTooLarge = 413
rejection_status HeadTooLarge = 431
rejection_status CodingNotServed = 501

-- the JSON object whose one member `error` is the rejection's name
abbrev pub rejection_body : Rejection → List ℕ
rejection_body BadHead = codes "{\"error\":\"BadHead\"}"
rejection_body Unauthorized = codes "{\"error\":\"Unauthorized\"}"
rejection_body NoRoute = codes "{\"error\":\"NoRoute\"}"
rejection_body OtherMethod = codes "{\"error\":\"OtherMethod\"}"
rejection_body LengthRequired = codes "{\"error\":\"LengthRequired\"}"
rejection_body BodyTooLarge = codes "{\"error\":\"BodyTooLarge\"}"
rejection_body HeadTooLarge = codes "{\"error\":\"HeadTooLarge\"}"
rejection_body CodingNotServed = codes "{\"error\":\"CodingNotServed\"}"
