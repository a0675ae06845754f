-- The files of the page: which there are, and the path, the content and the bytes of each. Made by tools/page.
use Rattle.std.specs.Prelude.{ℕ, List, [], ◌∷◌, Option, find, bytes_eq, codes}
use Rattle.cat_http.specs.declared.content.Content.{Content}
use Rattle.cat_http.specs.declared.content.Content.TheVariants.{Document, Picture, Script, Style}
use Rattle.cat_page.specs.declared.file.File.{File}
use Rattle.cat_page.specs.declared.file.File.TheVariants as file
use Rattle.cat_page.specs.declared.texts.TheConstants.{INDEX_HTML, CATALOGUE_JS, DOM_JS, ENTITY_JS, FIND_JS, GRAPH_JS, GROUP_JS, ICON_SVG, MAIN_JS, ORIGIN_JS, PLACE_JS, REFS_JS, SEARCH_JS, SENTENCES_JS, SERVER_JS, STATE_JS, STYLE_CSS, YAML_JS}

-- the path that names a file
abbrev pub path : File → List ℕ
path file.IndexHtml = codes "/"
path file.CatalogueJs = codes "/page/catalogue.js"
path file.DomJs = codes "/page/dom.js"
path file.EntityJs = codes "/page/entity.js"
path file.FindJs = codes "/page/find.js"
path file.GraphJs = codes "/page/graph.js"
path file.GroupJs = codes "/page/group.js"
path file.IconSvg = codes "/page/icon.svg"
path file.MainJs = codes "/page/main.js"
path file.OriginJs = codes "/page/origin.js"
path file.PlaceJs = codes "/page/place.js"
path file.RefsJs = codes "/page/refs.js"
path file.SearchJs = codes "/page/search.js"
path file.SentencesJs = codes "/page/sentences.js"
path file.ServerJs = codes "/page/server.js"
path file.StateJs = codes "/page/state.js"
path file.StyleCss = codes "/page/style.css"
path file.YamlJs = codes "/page/yaml.js"

-- what a file is
abbrev pub content : File → Content
content file.IndexHtml = Document
content file.CatalogueJs = Script
content file.DomJs = Script
content file.EntityJs = Script
content file.FindJs = Script
content file.GraphJs = Script
content file.GroupJs = Script
content file.IconSvg = Picture
content file.MainJs = Script
content file.OriginJs = Script
content file.PlaceJs = Script
content file.RefsJs = Script
content file.SearchJs = Script
content file.SentencesJs = Script
content file.ServerJs = Script
content file.StateJs = Script
content file.StyleCss = Style
content file.YamlJs = Script

-- the bytes of a file
abbrev pub bytes : File → List ℕ
bytes file.IndexHtml = INDEX_HTML.now
bytes file.CatalogueJs = CATALOGUE_JS.now
bytes file.DomJs = DOM_JS.now
bytes file.EntityJs = ENTITY_JS.now
bytes file.FindJs = FIND_JS.now
bytes file.GraphJs = GRAPH_JS.now
bytes file.GroupJs = GROUP_JS.now
bytes file.IconSvg = ICON_SVG.now
bytes file.MainJs = MAIN_JS.now
bytes file.OriginJs = ORIGIN_JS.now
bytes file.PlaceJs = PLACE_JS.now
bytes file.RefsJs = REFS_JS.now
bytes file.SearchJs = SEARCH_JS.now
bytes file.SentencesJs = SENTENCES_JS.now
bytes file.ServerJs = SERVER_JS.now
bytes file.StateJs = STATE_JS.now
bytes file.StyleCss = STYLE_CSS.now
bytes file.YamlJs = YAML_JS.now

-- all files
abbrev pub all_files : List File
all_files = file.IndexHtml ∷ file.CatalogueJs ∷ file.DomJs ∷ file.EntityJs ∷ file.FindJs ∷ file.GraphJs ∷ file.GroupJs ∷ file.IconSvg ∷ file.MainJs ∷ file.OriginJs ∷ file.PlaceJs ∷ file.RefsJs ∷ file.SearchJs ∷ file.SentencesJs ∷ file.ServerJs ∷ file.StateJs ∷ file.StyleCss ∷ file.YamlJs ∷ []

-- the file that a path names, if there is one
abbrev pub file_at : List ℕ → Option File
file_at p = find (λ f. bytes_eq (path f) p) all_files
