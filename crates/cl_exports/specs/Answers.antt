-- What is answered to a request of words and files.
use Rattle.std.specs.Prelude.{◌≡◌, ◌≢◌, ℕ, List, ◌++◌, Some}
use Rattle.cl_words.specs.Words.{taken}
use Rattle.cl_entries.specs.Scripts.{Script, bytes_of, end_number}
use Rattle.cl_app.specs.Top.{HasScript}
use Rattle.cl_request.specs.Request.{Parts, request_of}
use Rattle.cl_exports.specs.Copies.{IsCut}

-- these are the bytes and the status of the script that the words have over the files
pub record IsAnswer (parts : Parts) (out : List ℕ) (status : ℕ) : Type 0 where
  pub script : Script
  pub has : HasScript (taken parts.words) parts.files script
  pub bytes : out ≡ bytes_of script.steps
  pub ends : status ≡ end_number script.end

-- these are a first part of its bytes
pub record IsAnswerPart (parts : Parts) (out : List ℕ) : Type 0 where
  pub script : Script
  pub has : HasScript (taken parts.words) parts.files script
  pub rest : List ℕ
  pub bytes : out ++ rest ≡ bytes_of script.steps

-- the same of the words and files that are cut from bytes
pub record AnswersRequest (bytes ends : List ℕ) (words : ℕ) (out : List ℕ) (status : ℕ) : Type 0 where
  pub parts : Parts
  pub is_request : request_of bytes ends words ≡ Some parts
  pub answer : IsAnswer parts out status

pub record AnswersRequestPart (bytes ends : List ℕ) (words : ℕ) (out : List ℕ) : Type 0 where
  pub parts : Parts
  pub is_request : request_of bytes ends words ≡ Some parts
  pub part : IsAnswerPart parts out

-- there is more of the answer than what was handed out; where its status is 3 or 9, this is a first part of that of the script
pub record CutsAnswer (bytes ends : List ℕ) (words : ℕ) (out : List ℕ) (needed : ℕ) : Type 0 where
  pub all : List ℕ
  pub status : ℕ
  pub cut : IsCut all out needed
  pub whole : status ≢ 3 → status ≢ 9 → AnswersRequest bytes ends words all status
  pub part : AnswersRequestPart bytes ends words all
