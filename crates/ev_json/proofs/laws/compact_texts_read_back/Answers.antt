use Rattle.ev_json.proofs.TextReads.{text_again}
use Rattle.ev_json.proofs.Utf8Texts.{text_is_utf8}
use Rattle.ev_json.proofs.laws.compact_texts_read_back.Goals as goal

pub returns : goal.returns
returns c = λ value plain shallow. (text_is_utf8 value plain, text_again value plain shallow)
