-- What a writer of documents writes, for private clauses.
use Rattle.std.specs.Prelude.{◌≡◌, ℕ, List, map, None}
use Rattle.serde_json.specs.Data.{Data}
use Rattle.esto_docs.specs.Trees.{tree_of}
use Rattle.esto_docs.specs.Files.{file_trees, trees_fault}
use Rattle.esto_docs.specs.Documents.{documents_text}
use Rattle.esto_docmodel.specs.declared.file.Layout.{Layout}

-- The text is that of these documents, and it is read as their trees without a fault.
pub record HasWritten (layout : Layout) (documents : List Data) (text : List ℕ) : Type 0 where
  pub written : text ≡ documents_text layout documents
  pub read : file_trees layout text ≡ map tree_of documents
  pub no_fault : trees_fault layout text ≡ None
