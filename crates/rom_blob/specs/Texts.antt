-- What a run of a program of keys with bytes prints.
use Rattle.rom_text.specs.Text.{Texts, texts_of}
use Rattle.rom_blob_region.specs.Texts.{shown_blob_answer, shown_blob_reply}
use Rattle.rom_blob_region.specs.declared.call.BlobReply.{BlobReply}
use Rattle.rom_blob_region.specs.declared.call.BlobAnswer.{BlobAnswer}

-- how replies and answers are printed
abbrev pub blob_texts : Texts BlobReply BlobAnswer
blob_texts = texts_of shown_blob_reply shown_blob_answer
